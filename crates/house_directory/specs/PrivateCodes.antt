-- Words that only the views of types cite, nothing that is to be believed: what tells apart what
-- houses have of directories.
use Rattle.std.specs.Prelude.{◌≡◌, ℕ, ◌⊎◌, List, refl}
use Rattle.std.proofs.Common.{inl, inr}
use Rattle.std.specs.Coded.{Coded, code_by, coded×, coded⊎, coded_ℕ, coded_list}
use Rattle.cds_stamps.specs.declared.members.Member.{Member}
use Rattle.cds_stamps.specs.declared.stamp.Stamp.{Stamp}
use Rattle.cds_stamps.specs.Stamps.{stamp_code}
use Rattle.cds_stamps.specs.Octets.{octets_code}
use Rattle.directory.specs.declared.entry.EntryCell.{EntryCell}
use Rattle.directory.specs.Entries.{entry_code}
use Rattle.purge_rule.specs.declared.delta.Delta.{Delta}
use Rattle.purge_rule.specs.declared.replica.Replica.{Replica}
use Rattle.cds_messages.specs.declared.message.Body.{Body}
use Rattle.cds_messages.specs.declared.message.Body.TheVariants.{Update, Gather, Gathered, Spread, SpreadAck, Advance, Join, Leave}
use Rattle.cds_messages.specs.PrivateDirCodes.{member_code, replica_code, delta_code}
use Rattle.skulk_core.specs.declared.skulk.Skulk.{Skulk}
use Rattle.skulk_core.specs.declared.skulk.Skulk.TheVariants.{Idle, Gathering, Spreading}
use Rattle.house_directory.specs.declared.posted.Posted.{Posted}
use Rattle.house_directory.specs.declared.states.DirState.{DirState}
use Rattle.house_directory.specs.declared.states.DirState.TheVariants.{Held, Gone}

-- the parts of a phase: a number where no skulk runs; and what has these parts
abbrev pub SkulkParts : Type 0
SkulkParts = ℕ ⊎ ((Stamp × ℕ) ⊎ (Stamp × ℕ))

abbrev pub skulk_parts : Skulk → SkulkParts
skulk_parts Idle = inl 0
skulk_parts (Gathering t mask) = inr (inl (t, mask.0))
skulk_parts (Spreading t mask) = inr (inr (t, mask.0))

abbrev pub of_skulk_parts : SkulkParts → Skulk
of_skulk_parts (inl n) = Idle
of_skulk_parts (inr (inl p)) = Gathering p.0 (record { 0 = p.1 })
of_skulk_parts (inr (inr p)) = Spreading p.0 (record { 0 = p.1 })

pub skulk_parts_back : (s : Skulk) → of_skulk_parts (skulk_parts s) ≡ s
skulk_parts_back Idle = refl
skulk_parts_back (Gathering t mask) = refl
skulk_parts_back (Spreading t mask) = refl

-- a phase, by its parts
abbrev pub skulk_code : Coded Skulk
skulk_code = code_by SkulkParts (coded⊎ coded_ℕ (coded⊎ (coded× stamp_code coded_ℕ) (coded× stamp_code coded_ℕ))) skulk_parts of_skulk_parts skulk_parts_back

-- the parts of what a house has of a directory, and what has these parts
abbrev pub Parts : Type 0
Parts = (ℕ × (List Member × (Replica × Skulk))) ⊎ ℕ

abbrev pub parts : DirState → Parts
parts (Held h) = inl (h.epoch.0, (h.members, (h.replica, h.skulk)))
parts (Gone e) = inr e.0

abbrev pub of_parts : Parts → DirState
of_parts (inl p) = Held (record { epoch = record { 0 = p.0 }; members = p.1.0; replica = p.1.1.0; skulk = p.1.1.1 })
of_parts (inr n) = Gone (record { 0 = n })

pub parts_back : (d : DirState) → of_parts (parts d) ≡ d
parts_back (Held h) = refl
parts_back (Gone e) = refl

-- what a house has of a directory, by its parts
abbrev pub dir_state_code : Coded DirState
dir_state_code = code_by Parts (coded⊎ (coded× coded_ℕ (coded× (coded_list member_code) (coded× replica_code skulk_code))) coded_ℕ) parts of_parts parts_back

-- ---- posted messages

-- what a message carries: a number where it is nothing
abbrev pub Carried : Type 0
Carried = (List ℕ × EntryCell) ⊎ (Stamp ⊎ ((Stamp × Delta) ⊎ ((Stamp × Delta) ⊎ (Stamp ⊎ (Stamp ⊎ ((List Member × Replica) ⊎ ℕ))))))

abbrev pub code_of_body : Body → Carried
code_of_body (Update f) = inl (f.name, f.entry)
code_of_body (Gather t) = inr (inl t)
code_of_body (Gathered t d) = inr (inr (inl (t, d)))
code_of_body (Spread t d) = inr (inr (inr (inl (t, d))))
code_of_body (SpreadAck t) = inr (inr (inr (inr (inl t))))
code_of_body (Advance t) = inr (inr (inr (inr (inr (inl t)))))
code_of_body (Join ms r) = inr (inr (inr (inr (inr (inr (inl (ms, r)))))))
code_of_body Leave = inr (inr (inr (inr (inr (inr (inr 0))))))

abbrev pub body_of_code : Carried → Body
body_of_code (inl p) = Update (record { name = p.0; entry = p.1 })
body_of_code (inr (inl t)) = Gather t
body_of_code (inr (inr (inl p))) = Gathered p.0 p.1
body_of_code (inr (inr (inr (inl p)))) = Spread p.0 p.1
body_of_code (inr (inr (inr (inr (inl t))))) = SpreadAck t
body_of_code (inr (inr (inr (inr (inr (inl t)))))) = Advance t
body_of_code (inr (inr (inr (inr (inr (inr (inl p))))))) = Join p.0 p.1
body_of_code (inr (inr (inr (inr (inr (inr (inr n))))))) = Leave

pub carried_back : (b : Body) → body_of_code (code_of_body b) ≡ b
carried_back (Update f) = refl
carried_back (Gather t) = refl
carried_back (Gathered t d) = refl
carried_back (Spread t d) = refl
carried_back (SpreadAck t) = refl
carried_back (Advance t) = refl
carried_back (Join ms r) = refl
carried_back Leave = refl

abbrev pub copied_code : Coded (Stamp × Delta)
copied_code = coded× stamp_code delta_code

abbrev pub body_code : Coded Body
body_code =
    code_by Carried
    (coded⊎ (coded× octets_code entry_code)
    (coded⊎ stamp_code (coded⊎ copied_code
    (coded⊎ copied_code (coded⊎ stamp_code (coded⊎ stamp_code (coded⊎ (coded× (coded_list member_code) replica_code) coded_ℕ)))))))
    code_of_body body_of_code carried_back

-- a posted message with these numbers and what it carries
abbrev pub posted_with : ℕ × (ℕ × (ℕ × (ℕ × (ℕ × Body)))) → Posted
posted_with q = record {
  to = record { 0 = q.0 };
  message = record {
    dir = record { 0 = q.1.0 };
    from = record { 0 = q.1.1.0 };
    epoch = record { 0 = q.1.1.1.0 };
    floor = q.1.1.1.1.0;
    body = q.1.1.1.1.1;
  };
}

-- a posted message by its numbers and what it carries
abbrev pub posted_code : Coded Posted
posted_code =
    code_by (ℕ × (ℕ × (ℕ × (ℕ × (ℕ × Body))))) (coded× coded_ℕ (coded× coded_ℕ (coded× coded_ℕ (coded× coded_ℕ (coded× coded_ℕ body_code)))))
    (λ p. (p.to.0, (p.message.dir.0, (p.message.from.0, (p.message.epoch.0, (p.message.floor, p.message.body))))))
    posted_with
    (λ _. refl)

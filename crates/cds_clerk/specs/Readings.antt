-- What a read answers over a reader, and what it comes to by what was heard.
use Rattle.std.specs.Prelude.{◌≡◌, ℕ, List, [], Some, None, unwrap_or, Result, Ok, Err}
use Rattle.resolver.specs.declared.refusal.Refusal.{Refusal}
use Rattle.resolver.specs.declared.seen.Found.{Found}
use Rattle.resolver.specs.declared.walk.End.{End}
use Rattle.resolver.specs.declared.walk.End.TheVariants as ends
use Rattle.resolver.specs.Readers.{Reader, Unreachable}
use Rattle.clerk_lines.specs.declared.hearing.Told.TheVariants.{Shows}
use Rattle.clerk_lines.specs.declared.shown.ShownEntry.{ShownEntry}
use Rattle.script_answers.specs.declared.answer.Answer.{Answer}
use Rattle.script_answers.specs.declared.answer.Answer.TheVariants as answer
use Rattle.ns_commands.specs.Asks.{refusal_of_walk}
use Rattle.cds_clerk.specs.declared.heard.Heard.{Heard}
use Rattle.cds_clerk.specs.declared.heard.Lack.{Lack}
use Rattle.cds_clerk.specs.declared.reading.Outcome.{Outcome}
use Rattle.cds_clerk.specs.declared.reading.Outcome.TheVariants as outcome
use Rattle.cds_clerk.specs.Heards.{heard_root, heard_sight, heard_values, told_of}

-- the values of an attribute of the entry that is found, or why none is
abbrev pub values_read : Reader → (attr : List ℕ) → Result Found Refusal → Answer
values_read r attr (Ok found) = answer.Values (r.values found attr)
values_read r attr (Err why) = answer.Refused (refusal_of_walk why)

-- ---- what a command comes to

-- the answer, if there is one
abbrev pub IfSaid : Outcome → (Answer → Type 0) → Type 0
IfSaid (outcome.Said a) P = P a
IfSaid outcome.LacksRoot P = Unit {0}
IfSaid (outcome.Lacks q) P = Unit {0}

-- what lacks, if that is what a house says of a name
abbrev pub IfUnknown : Outcome → (Lack → Type 0) → Type 0
IfUnknown (outcome.Said a) P = Unit {0}
IfUnknown outcome.LacksRoot P = Unit {0}
IfUnknown (outcome.Lacks q) P = P q

-- where the root directory is lacks
abbrev pub IfUnrooted : Outcome → Type 0 → Type 0
IfUnrooted (outcome.Said a) P = Unit {0}
IfUnrooted outcome.LacksRoot P = P
IfUnrooted (outcome.Lacks q) P = Unit {0}

-- ---- one reader that agrees

-- a reader that tells what was heard, and else that no house answers
abbrev pub least_reader : Heard → Reader
least_reader h = record {
  root = unwrap_or (heard_root h.root) None;
  sees = λ at name. unwrap_or (heard_sight h at name) Unreachable;
  values = λ f attr. unwrap_or (heard_values h f attr) [];
}

-- the house of an entry showed it
pub record IsShown (h : Heard) (f : Found) : Type 0 where
  pub entry : ShownEntry
  pub told : told_of h.answers f.dir.0 f.house.0 f.name ≡ Some (Shows entry)

-- an end that finds an entry
abbrev pub IfFound : End → (Found → Type 0) → Type 0
IfFound (ends.Found f) P = P f
IfFound (ends.Missing place done) P = Unit {0}
IfFound (ends.Refused why) P = Unit {0}

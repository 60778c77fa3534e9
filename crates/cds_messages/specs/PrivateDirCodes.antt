-- Words that only the views of types cite, nothing that is to be believed: what tells directories
-- of images apart.
use Rattle.std.specs.Prelude.{◌≡◌, ℕ, ◌⊎◌, List, Option, refl}
use Rattle.std.proofs.Common.{inl, inr}
use Rattle.std.specs.FinMap.{code}
use Rattle.std.specs.Coded.{Coded, code_by, coded×, coded⊎, coded_ℕ, coded_list, coded_option}
use Rattle.cds_stamps.specs.declared.numbers.DirId.{DirId}
use Rattle.cds_stamps.specs.declared.stamp.Stamp.{Stamp}
use Rattle.cds_stamps.specs.declared.members.Member.{Member}
use Rattle.cds_stamps.specs.declared.members.MemberKind.{MemberKind}
use Rattle.cds_stamps.specs.Stamps.{stamp_code}
use Rattle.cds_stamps.specs.Octets.{octets_code}
use Rattle.directory.specs.Entries.{Entries, entry_code}
use Rattle.purge_rule.specs.declared.delta.Delta.{Delta}
use Rattle.purge_rule.specs.declared.replica.Replica.{Replica}
use Rattle.cds_messages.specs.KindNumbers.{kind_in, kind_number, kind_back}
use Rattle.cds_messages.specs.declared.image.ImageDir.{ImageDir}
use Rattle.cds_messages.specs.declared.image.ImageDir.TheVariants.{Held, Gone}

-- a directory is told by its number
abbrev pub dir_code : Coded DirId
dir_code = code_by ℕ coded_ℕ (λ d. d.0) (λ n. record { 0 = n }) (λ _. refl)

-- a member's kind by its number
abbrev pub kind_code : Coded MemberKind
kind_code = code_by ℕ coded_ℕ kind_number kind_in kind_back

-- a member by its three parts
abbrev pub member_code : Coded Member
member_code =
    code_by (ℕ × (ℕ × MemberKind)) (coded× coded_ℕ (coded× coded_ℕ kind_code)) (λ m. (m.house.0, (m.since.0, m.kind)))
    (λ p. record { house = record { 0 = p.0 }; since = record { 0 = p.1.0 }; kind = p.1.1 }) (λ _. refl)

-- a replica by its table and its AllUpTo
abbrev pub replica_code : Coded Replica
replica_code =
    code_by (Entries × Option Stamp) (coded× (code octets_code entry_code) (coded_option stamp_code)) (λ r. (r.table, r.all_up_to))
    (λ p. record { table = p.0; all_up_to = p.1 }) (λ _. refl)

-- a delta by its table and the stamp that it is above
abbrev pub delta_code : Coded Delta
delta_code =
    code_by (Entries × Option Stamp) (coded× (code octets_code entry_code) (coded_option stamp_code)) (λ d. (d.table, d.above))
    (λ p. record { table = p.0; above = p.1 }) (λ _. refl)

-- the parts of what is kept of a directory, held or gone
abbrev pub parts : ImageDir → (ℕ × (List Member × Replica)) ⊎ ℕ
parts (Held e ms r) = inl (e.0, (ms, r))
parts (Gone e) = inr e.0

-- and what has these parts
abbrev pub of_parts : (ℕ × (List Member × Replica)) ⊎ ℕ → ImageDir
of_parts (inl p) = Held (record { 0 = p.0 }) p.1.0 p.1.1
of_parts (inr n) = Gone (record { 0 = n })

-- its parts make it again
pub parts_back : (d : ImageDir) → of_parts (parts d) ≡ d
parts_back (Held e ms r) = refl
parts_back (Gone e) = refl

-- what is kept of a directory by its parts
abbrev pub image_dir_code : Coded ImageDir
image_dir_code =
    code_by ((ℕ × (List Member × Replica)) ⊎ ℕ) (coded⊎ (coded× coded_ℕ (coded× (coded_list member_code) replica_code)) coded_ℕ) parts of_parts parts_back

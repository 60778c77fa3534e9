-- Words of tests alone: a reader of two objects, which have the same values. Own.
use Rattle.std.specs.Prelude.{ℕ, true, List, [], ◌∷◌, nat_eq, codes, if◌then◌else◌}
use Rattle.std.specs.Cmp.Lexicographic.{pointwise}
use Rattle.resolver.specs.declared.seen.Seen.{Seen}
use Rattle.resolver.specs.declared.seen.Seen.TheVariants.{Object}
use Rattle.resolver.specs.Readers.{Reader}
use Rattle.resolver.specs.ListedReaders.{list_reader}
use Rattle.server_entries.specs.Exports.{tower_attribute}
use Rattle.ns_groups.specs.Groups.{group}

-- the two objects of the root directory
abbrev pub entries : List (ℕ × List ℕ × Seen)
entries = (1, codes "a", Object (record { 0 = 1 })) ∷ (1, codes "b", Object (record { 0 = 1 })) ∷ []

-- the values of an attribute: the tower, or the member of the group
abbrev pub value_of : (tower member attr : List ℕ) → List (List ℕ)
value_of tower member attr =
    if pointwise nat_eq attr tower_attribute then tower ∷ [] else (if pointwise nat_eq attr group then member ∷ [] else [])

-- the reader of these
abbrev pub pair : (tower member : List ℕ) → Reader
pair tower member = record (list_reader true entries) { values = λ at attr. value_of tower member attr }

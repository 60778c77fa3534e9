-- Words of tests alone: a reader of an object and of two links to it, one after the other. Own.
use Rattle.std.specs.Prelude.{ℕ, true, List, [], ◌∷◌, codes}
use Rattle.resolver.specs.declared.seen.Seen.{Seen}
use Rattle.resolver.specs.declared.seen.Seen.TheVariants.{Link, Object}
use Rattle.resolver.specs.Readers.{Reader}
use Rattle.resolver.specs.ListedReaders.{list_reader}

-- the object and the links of the root directory; this house shows the object
abbrev pub entries : (house : ℕ) → (middle end : List (List ℕ)) → List (ℕ × List ℕ × Seen)
entries house middle end =
    (1, codes "e", Object (record { 0 = house }))
    ∷ (1, codes "l", Link (record { 0 = 1 }) middle)
    ∷ (1, codes "m", Link (record { 0 = 1 }) end) ∷ []

-- the reader of these; each attribute has this value
abbrev pub shelf : (house : ℕ) → (middle end : List (List ℕ)) → (value : List ℕ) → Reader
shelf house middle end value = record (list_reader true (entries house middle end)) { values = λ at attr. value ∷ [] }

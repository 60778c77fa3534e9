-- Octets in ascending order, each once.
use Rattle.std.specs.Prelude.{ℕ, List, [], ◌∷◌}
use Rattle.std.specs.FinMap.Entries.{by_order}
use Rattle.cds_stamps.specs.Octets.{octets_cmp}

-- octets at their place among others that ascend, unless they stand there
abbrev pub put_in_order : List ℕ → List (List ℕ) → List (List ℕ)
put_in_order o [] = o ∷ []
put_in_order o (p ∷ ps) = by_order (octets_cmp o p) (o ∷ p ∷ ps) (p ∷ ps) (p ∷ put_in_order o ps)

-- each of these octets once, in ascending order
abbrev pub in_ascending_order : List (List ℕ) → List (List ℕ)
in_ascending_order [] = []
in_ascending_order (o ∷ os) = put_in_order o (in_ascending_order os)

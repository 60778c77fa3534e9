-- Maps to which entries are added.
use Rattle.std.specs.Prelude.{List, [], ◌∷◌}
use Rattle.std.specs.FinMap.{FinMap, insert}
use Rattle.std.specs.declared.cmp.Ordering.{Ordering}

-- a map with these entries added, one after another
abbrev pub add_all : {K X : Type 0} {R : K → K → Ordering} → FinMap R X → List (K × X) → FinMap R X
add_all m [] = m
add_all m (e ∷ es) = add_all (insert m e.0 e.1) es

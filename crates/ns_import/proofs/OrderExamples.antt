-- Orders of small graphs, by computing: of each the order from 0, and the search that comes to it.
use Rattle.std.specs.Prelude.{◌≡◌, ℕ, zero, suc, List, [], ◌∷◌, nat_eq, refl}
use Rattle.ns_import.specs.DepthFirst.{depth_first}
use Rattle.ns_import.specs.Orders.{order}

-- two ways to one item
abbrev diamond : ℕ → List ℕ
diamond zero = 1 ∷ 2 ∷ []
diamond (suc zero) = 3 ∷ []
diamond (suc (suc zero)) = 3 ∷ []
diamond (suc (suc (suc n))) = []

-- a cycle through the start
abbrev cycle : ℕ → List ℕ
cycle zero = 1 ∷ []
cycle (suc zero) = 2 ∷ 0 ∷ []
cycle (suc (suc n)) = 0 ∷ []

-- an item that waits, and is reached by another way before it is taken off
abbrev earlier : ℕ → List ℕ
earlier zero = 1 ∷ 2 ∷ []
earlier (suc zero) = 2 ∷ 3 ∷ []
earlier (suc (suc n)) = []

-- an item that is come to again from one after it
abbrev again : ℕ → List ℕ
again zero = 1 ∷ 2 ∷ []
again (suc zero) = []
again (suc (suc n)) = 1 ∷ []

-- an item whose only edges lead to itself
abbrev itself : ℕ → List ℕ
itself n = n ∷ n ∷ []

diamond_order : order nat_eq diamond 4 0 ≡ 0 ∷ 1 ∷ 3 ∷ 2 ∷ []
diamond_order = refl

diamond_search : depth_first nat_eq diamond 4 [] (0 ∷ []) ≡ 0 ∷ 1 ∷ 3 ∷ 2 ∷ []
diamond_search = refl

cycle_order : order nat_eq cycle 3 0 ≡ 0 ∷ 1 ∷ 2 ∷ []
cycle_order = refl

cycle_search : depth_first nat_eq cycle 3 [] (0 ∷ []) ≡ 0 ∷ 1 ∷ 2 ∷ []
cycle_search = refl

earlier_order : order nat_eq earlier 4 0 ≡ 0 ∷ 1 ∷ 2 ∷ 3 ∷ []
earlier_order = refl

earlier_search : depth_first nat_eq earlier 4 [] (0 ∷ []) ≡ 0 ∷ 1 ∷ 2 ∷ 3 ∷ []
earlier_search = refl

again_order : order nat_eq again 3 0 ≡ 0 ∷ 1 ∷ 2 ∷ []
again_order = refl

again_search : depth_first nat_eq again 3 [] (0 ∷ []) ≡ 0 ∷ 1 ∷ 2 ∷ []
again_search = refl

itself_order : order nat_eq itself 1 0 ≡ 0 ∷ []
itself_order = refl

itself_search : depth_first nat_eq itself 1 [] (0 ∷ []) ≡ 0 ∷ []
itself_search = refl

-- more steps change nothing
earlier_longer : order nat_eq earlier 9 0 ≡ 0 ∷ 1 ∷ 2 ∷ 3 ∷ []
earlier_longer = refl

use Rattle.std.proofs.Common.{◌≡◌, ◌∷◌, ◌++◌, take}
use Rattle.std.specs.Prelude.{decimal}
use Rattle.std.specs.List.{flat_map}
use Rattle.house_turns.proofs.showing.push_houses.Given as goal

abbrev pub invariant-loop-house : goal.invariant-loop-house
invariant-loop-house l = l.text.items ≡ l.fn.text.items ++ flat_map (λ h. 32 ∷ decimal h.0) (take l.house-index l.houses)

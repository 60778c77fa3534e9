use Rattle.std.proofs.Common.{◌≡◌, map, take}
use Rattle.attr_sets.proofs.order.all_in_order.Given as goal

abbrev pub invariant-loop-value : goal.invariant-loop-value
invariant-loop-value l = map (λ v. v.now) l.all.items ≡ take l.value-index l.values

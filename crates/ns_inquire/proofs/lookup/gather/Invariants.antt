use Rattle.std.proofs.Common.{◌≡◌, ◌-◌, ◌≤◌, ◌++◌, List, Some, length}
use Rattle.tower_codec.specs.declared.binding.StringBinding.{StringBinding}
use Rattle.ns_inquire.proofs.lookup.gather.Given as goal

-- what came is in front of what is left
abbrev pub invariant-bindings : goal.invariant-bindings
invariant-bindings g l = record {
  came : (left : List StringBinding) → l.initial.importer ≡ Some left → (rest : List StringBinding) × (left ≡ l.batch.items ++ rest) × (l.importer ≡ Some rest);
  within : length l.batch.items ≤ l.most;
}

abbrev pub decreases-bindings : goal.decreases-bindings
decreases-bindings g l = l.most - length l.batch.items

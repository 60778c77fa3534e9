use Rattle.std.proofs.Common.{◌≡◌, ◌++◌, map}
use Rattle.std.specs.FinMap.{entries}
use Rattle.attr_sets.specs.AttributeCells.{present_in}
use Rattle.ns_import.proofs.client.present.Given as goal

abbrev pub invariant-loop-value : goal.invariant-loop-value
invariant-loop-value l = map (λ value. value.now) l.found.items ++ present_in l.value-iterator ≡ present_in (entries l.cell.values)

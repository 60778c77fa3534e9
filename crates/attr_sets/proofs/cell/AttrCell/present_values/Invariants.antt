use Rattle.std.proofs.Common.{◌≡◌, ◌++◌}
use Rattle.std.specs.FinMap as map
use Rattle.attr_sets.specs.AttributeCells.{present_in}
use Rattle.attr_sets.proofs.cell.AttrCell.present_values.Given as goal

abbrev pub invariant-loop-value : goal.invariant-loop-value
invariant-loop-value l = l.found.items ++ present_in l.value-iterator ≡ present_in (map.entries l.self.values)

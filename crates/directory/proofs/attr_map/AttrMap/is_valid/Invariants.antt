use Rattle.std.specs.Cmp.Lexicographic.{nat_list_cmp_total}
use Rattle.attr_sets.proofs.PartLoops.{EachIf}
use Rattle.directory.specs.Entries.{IsHeldCell}
use Rattle.directory.proofs.attr_map.AttrMap.is_valid.Given as goal

abbrev pub invariant-loop-cell : goal.invariant-loop-cell
invariant-loop-cell l = EachIf nat_list_cmp_total IsHeldCell l.cell-iterator l.fn.self

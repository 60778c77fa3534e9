use Rattle.std.specs.Cmp.Lexicographic.{nat_list_cmp_total}
use Rattle.cds_stamps.specs.Octets.{octets_exact}
use Rattle.attr_sets.specs.CellPurges.{cell_after}
use Rattle.attr_sets.proofs.PartLoops.{WholeIf}
use Rattle.directory.proofs.attr_map.AttrMap.is_after.Given as goal

abbrev pub invariant-loop-cell : goal.invariant-loop-cell
invariant-loop-cell l = WholeIf nat_list_cmp_total octets_exact (cell_after l.fn.t) l.cell-iterator l.fn.self

use Rattle.std.specs.Cmp.Lexicographic.{nat_list_cmp_total}
use Rattle.cds_stamps.specs.Octets.{octets_exact}
use Rattle.attr_sets.specs.CellPurges.{mark_after}
use Rattle.attr_sets.proofs.PartLoops.{WholeIf}
use Rattle.attr_sets.proofs.value_map.ValueMap.is_after.Given as goal

abbrev pub invariant-loop-mark : goal.invariant-loop-mark
invariant-loop-mark l = WholeIf nat_list_cmp_total octets_exact (mark_after l.fn.t) l.mark-iterator l.fn.self

use Rattle.std.specs.Cmp.Lexicographic.{nat_list_cmp_total}
use Rattle.cds_stamps.specs.Octets.{octets_exact}
use Rattle.attr_sets.specs.CellPurges.{mark_after}
use Rattle.attr_sets.proofs.PartLoops.{PutsPart}
use Rattle.attr_sets.proofs.value_map.ValueMap.after.Given as goal

abbrev pub invariant-loop-value : goal.invariant-loop-value
invariant-loop-value l = PutsPart nat_list_cmp_total octets_exact (λ _. mark_after l.fn.t) l.fn.self l.later l.value-iterator

use Rattle.std.specs.Cmp.Lexicographic.{nat_list_cmp_total}
use Rattle.cds_stamps.specs.Octets.{octets_exact}
use Rattle.attr_sets.specs.CellPurges.{cell_after}
use Rattle.attr_sets.proofs.PartLoops.{PutsPart}
use Rattle.directory.proofs.attr_map.AttrMap.after.Given as goal

abbrev pub invariant-loop-name : goal.invariant-loop-name
invariant-loop-name l = PutsPart nat_list_cmp_total octets_exact (λ _. cell_after l.fn.t) l.fn.self l.later l.name-iterator

use Rattle.std.proofs.Common.{◌≡◌, None}
use Rattle.std.specs.Cmp.Lexicographic.{nat_list_cmp_total}
use Rattle.attr_sets.specs.CellPurges.{cell_after}
use Rattle.attr_sets.proofs.PartLoops.{EachIf}
use Rattle.directory.proofs.attr_map.AttrMap.is_old.Given as goal

abbrev pub invariant-loop-cell : goal.invariant-loop-cell
invariant-loop-cell l = EachIf nat_list_cmp_total (λ c. cell_after l.fn.t c ≡ None) l.cell-iterator l.fn.self

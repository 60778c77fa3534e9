use Rattle.std.proofs.Common.{◌≡◌, None}
use Rattle.std.specs.Cmp.Lexicographic.{nat_list_cmp_total}
use Rattle.attr_sets.specs.CellPurges.{mark_after}
use Rattle.attr_sets.proofs.PartLoops.{EachIf}
use Rattle.directory.proofs.attr_map.are_old_marks.Given as goal

abbrev pub invariant-loop-mark : goal.invariant-loop-mark
invariant-loop-mark l = EachIf nat_list_cmp_total (λ m. mark_after l.fn.t m ≡ None) l.mark-iterator l.fn.marks

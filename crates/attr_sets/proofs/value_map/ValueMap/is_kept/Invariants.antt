use Rattle.std.proofs.Common.{◌≡◌, Some}
use Rattle.std.specs.Cmp.Lexicographic.{nat_list_cmp_total}
use Rattle.attr_sets.specs.Marks.{mark_after_clear}
use Rattle.attr_sets.proofs.PartLoops.{EachIf}
use Rattle.attr_sets.proofs.value_map.ValueMap.is_kept.Given as goal

abbrev pub invariant-loop-mark : goal.invariant-loop-mark
invariant-loop-mark l = EachIf nat_list_cmp_total (λ m. mark_after_clear l.fn.clear (Some m) ≡ Some m) l.mark-iterator l.fn.self

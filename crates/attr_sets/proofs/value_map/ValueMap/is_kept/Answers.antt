use Rattle.std.proofs.Common.{◌≡◌, ◌∙◌, Some}
use Rattle.std.specs.Cmp.Lexicographic.{nat_list_cmp_total}
use Rattle.attr_sets.specs.Marks.{mark_after_clear}
use Rattle.attr_sets.proofs.PartLoops.{each_starts}
use Rattle.attr_sets.proofs.value_map.ValueMap.is_kept.Goals as goal

pub loop-mark-init : goal.loop-mark-init
loop-mark-init c =
    each_starts nat_list_cmp_total (λ m. mark_after_clear c.args.clear.now (Some m) ≡ Some m) c.args.self.now c.self.inside.marks _ c.self.view_is
    c.iter-mark-items.ensures.ordered (c.into_iter-mark-iterator.ensures.into_iter_gives ∙ c.iter-mark-items.ensures.rest)

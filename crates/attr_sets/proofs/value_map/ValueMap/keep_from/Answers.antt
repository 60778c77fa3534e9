use Rattle.std.proofs.Common.{Some, sym, ap, ◌∙◌}
use Rattle.std.specs.FinMap as map
use Rattle.std.specs.Cmp.Lexicographic.{nat_list_cmp_total}
use Rattle.attr_sets.specs.Marks.{mark_after_clear}
use Rattle.cds_stamps.proofs.TreeViews.{get-view}
use Rattle.attr_sets.proofs.value_map.ValueMap.keep_from.Goals as goal

pub returns : goal.returns
returns c = λ q.
    get-view nat_list_cmp_total c.keep_marks_from.new.marks q ∙ c.keep_marks_from.ensures q
    ∙ ap (mark_after_clear (Some c.args.clear)) (sym (get-view nat_list_cmp_total c.self.inside.marks q) ∙ ap (λ m. map.get m q) c.self.view_is)

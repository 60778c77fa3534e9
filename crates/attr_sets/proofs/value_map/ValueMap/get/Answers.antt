use Rattle.std.proofs.Common.{sym, ◌∙◌, ap}
use Rattle.std.specs.FinMap as map
use Rattle.std.specs.Cmp.Lexicographic.{nat_list_cmp_total}
use Rattle.cds_stamps.proofs.TreeViews.{get-view}
use Rattle.attr_sets.proofs.value_map.ValueMap.get.Goals as goal

pub returns : goal.returns
returns c = c.get.ensures.value ∙ sym (get-view nat_list_cmp_total c.self.inside.marks c.args.value.now)
    ∙ ap (λ m. map.get m c.args.value.now) c.self.view_is

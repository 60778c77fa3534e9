use Rattle.std.proofs.Common.{sym, ◌∙◌, ap}
use Rattle.std.specs.FinMap as map
use Rattle.std.specs.Cmp.Lexicographic.{nat_list_cmp_total}
use Rattle.cds_stamps.proofs.TreeViews.{get-view}
use Rattle.directory.proofs.attr_map.AttrMap.get.Goals as goal

pub returns : goal.returns
returns c = c.get.ensures.value ∙ sym (get-view nat_list_cmp_total c.self.inside.cells c.args.name.now)
    ∙ ap (λ m. map.get m c.args.name.now) c.self.view_is

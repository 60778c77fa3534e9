use Rattle.std.proofs.Common.{sym, ap, ◌∙◌}
use Rattle.std.specs.FinMap as map
use Rattle.std.specs.Cmp.Lexicographic.{nat_list_cmp_total}
use Rattle.cds_stamps.proofs.TreeViews.{len-view}
use Rattle.directory.proofs.attr_map.AttrMap.len.Goals as goal

pub returns : goal.returns
returns c = c.len.ensures.len ∙ sym (len-view nat_list_cmp_total c.self.inside.cells c.len.ensures.ordered) ∙ ap map.len c.self.view_is

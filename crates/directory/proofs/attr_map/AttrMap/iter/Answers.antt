use Rattle.std.proofs.Common.{sym, ap, ◌∙◌}
use Rattle.std.specs.FinMap as map
use Rattle.std.specs.Cmp.Lexicographic.{nat_list_cmp_total}
use Rattle.cds_stamps.specs.Octets.{octets_exact}
use Rattle.cds_stamps.proofs.TreeViews.{entries-view}
use Rattle.directory.proofs.attr_map.AttrMap.iter.Goals as goal

pub returns : goal.returns
returns c = c.iter.ensures.rest ∙ sym (entries-view nat_list_cmp_total octets_exact c.self.inside.cells c.iter.ensures.ordered)
    ∙ ap map.entries c.self.view_is

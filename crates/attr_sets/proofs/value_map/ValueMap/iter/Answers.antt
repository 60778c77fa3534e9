use Rattle.std.proofs.Common.{sym, ap, ◌∙◌}
use Rattle.std.specs.FinMap as map
use Rattle.std.specs.Cmp.Lexicographic.{nat_list_cmp_total}
use Rattle.cds_stamps.specs.Octets.{octets_exact}
use Rattle.cds_stamps.proofs.TreeViews.{entries-view}
use Rattle.attr_sets.proofs.value_map.ValueMap.iter.Goals as goal

pub returns : goal.returns
returns c = c.iter.ensures.rest ∙ sym (entries-view nat_list_cmp_total octets_exact c.self.inside.marks c.iter.ensures.ordered)
    ∙ ap map.entries c.self.view_is

use Rattle.std.proofs.Common.{sym, ◌∙◌, ap}
use Rattle.std.specs.FinMap as map
use Rattle.std.specs.Cmp.Lexicographic.{nat_list_cmp_total}
use Rattle.cds_stamps.proofs.TreeViews.{get-view, view-remove}
use Rattle.cds_stamps.specs.Octets.{octets_exact}
use Rattle.attr_sets.proofs.value_map.ValueMap.remove.Goals as goal

pub returns-clause-before : goal.returns-clause-before
returns-clause-before c = c.remove.ensures.value ∙ sym (get-view nat_list_cmp_total c.self.inside.marks c.args.value.now)
    ∙ ap (λ m. map.get m c.args.value.now) c.self.view_is

pub returns-clause-after : goal.returns-clause-after
returns-clause-after c =
    view-remove nat_list_cmp_total octets_exact c.self.inside.marks c.remove.new.self c.args.value.now c.remove.ensures.updates.0
    ∙ ap (λ m. map.remove m c.args.value.now) c.self.view_is

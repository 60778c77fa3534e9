use Rattle.std.proofs.Common.{sym, ◌∙◌, ap}
use Rattle.std.specs.FinMap as map
use Rattle.std.specs.Cmp.Lexicographic.{nat_list_cmp_total}
use Rattle.cds_stamps.proofs.TreeViews.{get-view, view-insert}
use Rattle.cds_stamps.specs.Octets.{octets_exact}
use Rattle.attr_sets.proofs.value_map.ValueMap.insert.Goals as goal

pub returns-clause-before : goal.returns-clause-before
returns-clause-before c = c.in_ok-insert.ensures.old ∙ sym (get-view nat_list_cmp_total c.self.inside.marks c.args.value)
    ∙ ap (λ m. map.get m c.args.value) c.self.view_is

pub returns-clause-ok : goal.returns-clause-ok
returns-clause-ok c =
    view-insert nat_list_cmp_total octets_exact c.self.inside.marks c.insert.new.self c.args.value c.args.mark c.in_ok-insert.ensures.updates.0
    ∙ ap (λ m. map.insert m c.args.value c.args.mark) c.self.view_is

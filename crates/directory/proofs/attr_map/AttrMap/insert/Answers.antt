use Rattle.std.proofs.Common.{sym, ◌∙◌, ap}
use Rattle.std.specs.FinMap as map
use Rattle.std.specs.Cmp.Lexicographic.{nat_list_cmp_total}
use Rattle.cds_stamps.proofs.TreeViews.{get-view, view-insert}
use Rattle.cds_stamps.specs.Octets.{octets_exact}
use Rattle.directory.proofs.attr_map.AttrMap.insert.Goals as goal

pub returns-clause-before : goal.returns-clause-before
returns-clause-before c = c.in_ok-insert.ensures.old ∙ sym (get-view nat_list_cmp_total c.self.inside.cells c.args.name)
    ∙ ap (λ m. map.get m c.args.name) c.self.view_is

pub returns-clause-ok : goal.returns-clause-ok
returns-clause-ok c =
    view-insert nat_list_cmp_total octets_exact c.self.inside.cells c.insert.new.self c.args.name c.args.cell c.in_ok-insert.ensures.updates.0
    ∙ ap (λ m. map.insert m c.args.name c.args.cell) c.self.view_is

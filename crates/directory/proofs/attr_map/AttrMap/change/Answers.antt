use Rattle.std.proofs.Common.{ap, ◌∙◌}
use Rattle.std.specs.FinMap as map
use Rattle.std.specs.Cmp.Lexicographic.{nat_list_cmp_total}
use Rattle.cds_stamps.specs.Octets.{octets_exact}
use Rattle.attr_sets.specs.AttributeCells.{cell_of, join_cells}
use Rattle.attr_sets.specs.CellChanges.{change_marks}
use Rattle.cds_stamps.proofs.Undoing.{joined_new}
use Rattle.directory.proofs.attr_map.AttrMap.change.Goals as goal

pub returns-clause-ok : goal.returns-clause-ok
returns-clause-ok c =
    λ _. let absent = rw c.if-here.false at c.in_ok-here.ensures.ok in
    joined_new nat_list_cmp_total octets_exact join_cells c.args.self.now c.insert.new.self c.args.name.now (cell_of
    (change_marks c.args.change.now c.args.stamp)) absent.0
    (c.in_ok-insert.ensures.ok ∙ ap (λ k. map.insert c.change_here.new.self k c.in_ok-cell.cell) c.in_ok-key.ensures
    ∙ ap (map.insert c.change_here.new.self c.args.name.now) c.in_ok-cell.ensures
    ∙ ap (λ m. map.insert m c.args.name.now (cell_of (change_marks c.args.change.now c.args.stamp))) absent.1)

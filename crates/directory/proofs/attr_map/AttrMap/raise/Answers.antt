use Rattle.std.proofs.Common.{ap, ◌∙◌, None}
use Rattle.std.specs.FinMap as map
use Rattle.std.specs.Cmp.Lexicographic.{nat_list_cmp_total}
use Rattle.cds_stamps.specs.Octets.{octets_exact}
use Rattle.attr_sets.specs.AttributeCells.{join_cells}
use Rattle.attr_sets.specs.CellUndoWords.{undo_cell}
use Rattle.cds_stamps.specs.Undos.{RaisesAt, TakesBack}
use Rattle.cds_stamps.proofs.Undoing.{raised_new}
use Rattle.cds_stamps.specs.Undos.{RaisesAt, TakesBack}
use Rattle.std.specs.Prelude.{◌∷◌, []}
use Rattle.directory.proofs.attr_map.AttrMap.raise.Goals as goal

both : (c : goal.Joined-branch-5)
    → RaisesAt join_cells c.args.self.now c.insert.new.self c.args.name.now c.args.cell.now
    × TakesBack undo_cell c.args.self.now c.insert.new.self ((c.args.name.now, None) ∷ [])
both c =
    let absent = rw c.in_default.is at c.in_ok-here.ensures.ok in
    raised_new nat_list_cmp_total octets_exact join_cells undo_cell c.args.self.now c.insert.new.self c.args.name.now c.args.cell.now absent.0
    (c.in_ok-insert.ensures.ok ∙ ap (λ k. map.insert c.raise_here.new.self k c.in_ok-copy.field-0) c.in_ok-key.ensures
    ∙ ap (map.insert c.raise_here.new.self c.args.name.now) c.in_ok-copy.ensures ∙ ap (λ m. map.insert m c.args.name.now c.args.cell.now) absent.1)

pub returns-clause-ok : goal.returns-clause-ok
returns-clause-ok c = λ _ _. (both c).0

pub returns-clause-back : goal.returns-clause-back
returns-clause-back c = (both c).1

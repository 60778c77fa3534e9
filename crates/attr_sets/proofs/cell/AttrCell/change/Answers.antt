use Rattle.std.proofs.Common.{◌∷◌, []}
use Rattle.attr_sets.specs.Marks.{present_at, absent_at}
use Rattle.attr_sets.specs.AttributeCells.{Cleared, Marked, cell_of}
use Rattle.attr_sets.proofs.CellUndoing.{raised_agrees, joined_agrees}
use Rattle.attr_sets.proofs.cell.AttrCell.change.Goals as goal

pub returns-in_ok-add-in-Add-clause-values : goal.returns-in_ok-add-in-Add-clause-values
returns-in_ok-add-in-Add-clause-values c = rw c.in-Add.is
    (raised_agrees c.args.self.now c.add.new.self c.in-Add.value.now (present_at c.args.stamp) c.add.ensures.cleared c.in_ok-add-in-Add.ensures.values)

pub returns-in_ok-remove-in-Remove-clause-values : goal.returns-in_ok-remove-in-Remove-clause-values
returns-in_ok-remove-in-Remove-clause-values c = rw c.in-Remove.is
    (raised_agrees c.args.self.now c.remove.new.self c.in-Remove.value.now (absent_at c.args.stamp) c.remove.ensures.cleared
    c.in_ok-remove-in-Remove.ensures.values)

pub returns-in_ok-put-in-Put-clause-values : goal.returns-in_ok-put-in-Put-clause-values
returns-in_ok-put-in-Put-clause-values c = rw c.in-Put.is
    (joined_agrees c.args.self.now (cell_of (Cleared c.args.stamp ∷ Marked c.in-Put.value.now (present_at c.args.stamp) ∷ [])) c.put.new.self
    c.in_ok-put-in-Put.ensures.ok)

pub returns-in-Clear-clause-values : goal.returns-in-Clear-clause-values
returns-in-Clear-clause-values c = rw c.in-Clear.is
    (joined_agrees c.args.self.now (cell_of (Cleared c.args.stamp ∷ [])) c.clear.new.self c.clear.ensures)

use Rattle.std.proofs.Common.{refl, sym}
use Rattle.attr_sets.proofs.CellUndoing.{kept_joined}
use Rattle.attr_sets.proofs.cell.AttrCell.outdates.Goals as goal

pub returns-then-covers_clear : goal.returns-then-covers_clear
returns-then-covers_clear c = λ outdated valid.
    sym (kept_joined c.args.self.now c.args.other.now c.args.self.now refl (rw c.if-covers_clear.true at c.covers_clear.ensures)
    (c.outdates_all.ensures outdated) valid)

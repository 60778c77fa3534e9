use Rattle.std.proofs.Common.{arith}
use Rattle.directory.proofs.LaterLaws.{old_cell, cell_old}
use Rattle.directory.proofs.attr_map.is_old_cell.Goals as goal

pub returns-then-is_old_clear : goal.returns-then-is_old_clear
returns-then-is_old_clear c = (
  λ old. old_cell c.args.t c.args.cell.now (c.is_old_clear.ensures.0 c.if-is_old_clear.true) (c.are_old_marks.ensures.0 old),
  λ none. c.are_old_marks.ensures.1 (cell_old c.args.t c.args.cell.now none).1,
)

pub returns-else-is_old_clear : goal.returns-else-is_old_clear
returns-else-is_old_clear c = (
  λ old. grind (arith, old, c.if-is_old_clear.false),
  λ none. grind (arith, c.if-is_old_clear.false, c.is_old_clear.ensures.1 (cell_old c.args.t c.args.cell.now none).0),
)

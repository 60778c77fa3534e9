use Rattle.std.proofs.Common.{◌∙◌, sym, arith}
use Rattle.attr_sets.proofs.CellUndoing.{is_empty_cell-is, empty_cell-is_empty}
use Rattle.directory.proofs.attr_map.is_held.Goals as goal

pub returns-then-not-is_empty : goal.returns-then-not-is_empty
returns-then-not-is_empty c = (
  λ valid. (c.is_valid.ensures.0 valid, λ empty. grind (arith, c.is_empty.ensures, c.if-not-is_empty.true, empty_cell-is_empty c.args.cell.now empty)),
  λ held. c.is_valid.ensures.1 held.0,
)

pub returns-else-not-is_empty : goal.returns-else-not-is_empty
returns-else-not-is_empty c = (
  λ valid. grind (arith, valid, c.if-not-is_empty.false),
  λ held. absurd (held.1 (is_empty_cell-is c.args.cell.now (sym c.is_empty.ensures ∙ grind (arith, c.if-not-is_empty.false)))),
)

use Rattle.attr_sets.proofs.CellUndoing.{new_cell}
use Rattle.attr_sets.proofs.cell.AttrCell.new.Goals as goal

pub returns : goal.returns
returns c = new_cell c.new.result c.new.ensures

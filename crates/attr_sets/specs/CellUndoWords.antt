-- Words of contracts about logs alone: what takes a join of cells back.
use Rattle.cds_stamps.specs.Undos.{taken_back, put_back}
use Rattle.attr_sets.specs.declared.cell.AttrCell.{AttrCell}
use Rattle.attr_sets.specs.declared.undo.CellUndo.{CellUndo}
use Rattle.attr_sets.specs.declared.undo.CellUndo.TheVariants.{Whole, Marks}

-- the cell with the join taken back: the old cell, or the cell with each mark that was changed put
-- back
abbrev pub undo_cell : CellUndo → AttrCell → AttrCell
undo_cell (Whole old) a = old
undo_cell (Marks log) a = record a { values = taken_back put_back log a.values }

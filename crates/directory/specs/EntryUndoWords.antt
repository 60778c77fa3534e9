-- Words of private contracts: what takes a join of entries back.
use Rattle.cds_stamps.specs.Undos.{taken_back}
use Rattle.attr_sets.specs.CellUndoWords.{undo_cell}
use Rattle.directory.specs.declared.entry.EntryCell.{EntryCell}
use Rattle.directory.specs.declared.undo.EntryUndo.{EntryUndo}
use Rattle.directory.specs.declared.undo.EntryUndo.TheVariants.{Whole, Tied}

-- the entry with the join taken back: the old entry, or the entry with what was changed of it put
-- back
abbrev pub undo_entry : EntryUndo → EntryCell → EntryCell
undo_entry (Whole old) e = old
undo_entry (Tied kind death log) e = record { birth = e.birth; kind = kind; death = death; attrs = taken_back undo_cell log e.attrs }

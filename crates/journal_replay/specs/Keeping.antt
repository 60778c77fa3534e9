-- How the disks of a cell's houses are kept, and what is on them after a line of the form
-- `journal`.
use Rattle.std.specs.Prelude.{◌≡◌, Bool, true, false, Option, Result}
use Rattle.cell_script.specs.declared.fault.ParseFault.{ParseFault}
use Rattle.journal_forms.specs.declared.journal_line.JournalLine.{JournalLine}
use Rattle.cds_cell.specs.ModelCells.{Stands}
use Rattle.reply_buffer.specs.declared.replies.LineEnd.{LineEnd}
use Rattle.reply_buffer.specs.declared.replies.LineEnd.TheVariants as line
use Rattle.journal_replay.specs.declared.keeper.Keeper.{Keeper}
use Rattle.journal_replay.specs.declared.journals.Journals.{Journals}
use Rattle.journal_replay.specs.CellJournals.{JournaledCell, puts_by}
use Rattle.journal_replay.specs.CellDisks.{ArePutting, GiveImages, HoldAll}

-- a cell of the program and its disks are those of a cell of the model with journals: on each disk
-- is what the house put, whatever a crash leaves, and the last image there is that of the house
pub record StandsKeeper (k : Keeper) (s : JournaledCell) : Type 0 where
  pub cell : Stands k.replayer.cell s.cell
  pub disks : HoldAll k.disks.items s.lists
  pub gives : GiveImages s

-- the same between two lines, where no line was given up before
pub record StandsJournals (j : Journals) (s : JournaledCell) : Type 0 where
  pub usable : j.spent ≡ false
  pub stands : StandsKeeper j.keeper s

-- what is on the disks after a line that says this: all as the line leaves it, or as it was before
-- a faulty one. A line that is given up because memory ran out, or because a journal has no room,
-- leaves them with its puts under way
abbrev pub LeavesDisks : LineEnd → JournaledCell → Result (Option JournalLine) ParseFault → Journals → Type 0
LeavesDisks line.GoesOn s said j = Unit {0}
LeavesDisks line.Stops s said j = HoldAll j.keeper.disks.items s.lists
LeavesDisks line.NoMemory s said j = ArePutting j.keeper.disks.items s.lists (puts_by s said)
LeavesDisks line.Full s said j = ArePutting j.keeper.disks.items s.lists (puts_by s said)

-- whether a journal had no room so far: it is known so exactly if a line ended for that, and else
-- as before
abbrev pub TellsRoom : LineEnd → (before after : Bool) → Type 0
TellsRoom line.Full before after = after ≡ true
TellsRoom line.GoesOn before after = after ≡ before
TellsRoom line.Stops before after = after ≡ before
TellsRoom line.NoMemory before after = after ≡ before

-- What a line of the form `journal` that is answered has a disk do.
use Rattle.std.specs.Prelude.{◌≡◌, ℕ, ◌+◌, true, List, Option, Some, None, Result, Ok, slice_get, slice_set}
use Rattle.house_journal.specs.JournalRecords.{IsAtRest}
use Rattle.house_journal.specs.MemoryDisks.{MemState, told_of}
use Rattle.house_journal.specs.declared.leave.Leave.{Leave}
use Rattle.disk_journals.specs.KeptJournals.{StopsAndOpens, told_opened}
use Rattle.cell_model.specs.Sets.{has}
use Rattle.cell_script.specs.declared.command.Command.{Command}
use Rattle.cell_script.specs.declared.command.Command.TheVariants as command
use Rattle.cell_script.specs.declared.command.ScriptLine.{ScriptLine}
use Rattle.cell_script.specs.declared.command.ScriptLine.TheVariants as script
use Rattle.cell_script.specs.declared.fault.ParseFault.{ParseFault}
use Rattle.cds_cell.specs.CommandImages.{image_after}
use Rattle.cds_cell.specs.Scripted.{step_of}
use Rattle.journal_forms.specs.declared.journal_line.JournalLine.{JournalLine}
use Rattle.journal_forms.specs.declared.journal_line.JournalLine.TheVariants as line
use Rattle.reply_buffer.specs.declared.replies.LineEnd.{LineEnd}
use Rattle.reply_buffer.specs.declared.replies.LineEnd.TheVariants as end
use Rattle.journal_replay.specs.CellJournals.{JournaledCell}
use Rattle.journal_replay.specs.Journaled.{stop_refused}

-- the disk at this place was used so, and no other
pub record Uses (Use : MemState → MemState → Type 0) (at : ℕ) (old new : List MemState) : Type 0 where
  pub before : MemState
  pub after : MemState
  pub was : slice_get old at ≡ Some before
  pub others : new ≡ slice_set old at after
  pub used : Use before after

-- the disk of a house was used so, and no other
abbrev pub UsesDisk : (Use : MemState → MemState → Type 0) → (h : ℕ) → (old new : List MemState) → Type 0
UsesDisk Use h old new = (at : ℕ) → h ≡ at + 1 → Uses Use at old new

-- a journal was opened: its disk did the calls of an open
abbrev pub IsOpened : MemState → MemState → Type 0
IsOpened before after = told_of after ≡ told_opened before

-- the put of an image was stopped at this of its four calls; then the disk was restarted with this
-- leave, and the journal opened
pub record IsStopped (image : List ℕ) (call : ℕ) (leave : Leave) (before after : MemState) : Type 0 where
  pub place : ℕ
  pub rest : IsAtRest before.octets place
  pub stops : StopsAndOpens place image call leave before after

-- ---- lines

-- the journal of a house was opened, if the house was made
abbrev pub OpensJournal : JournaledCell → (h : ℕ) → (old new : List MemState) → Type 0
OpensJournal s h old new = has h s.cell.made ≡ true → UsesDisk IsOpened h old new

-- a command has a journal opened: a house starts from what its journal gives
abbrev pub CommandCalls : JournaledCell → Command → (old new : List MemState) → Type 0
CommandCalls s (command.Start h) old new = OpensJournal s h.0 old new
CommandCalls s _ old new = Unit {0}

-- so does a line of `run`
abbrev pub PlainCalls : JournaledCell → ScriptLine → (old new : List MemState) → Type 0
PlainCalls s (script.Cell c) old new = CommandCalls s c old new
PlainCalls s (script.Question q) old new = Unit {0}

-- a line that is answered: `image` and `start` open the journal of their house; `stop` stops the
-- put of the image that its command makes, if it makes another
abbrev pub LineCalls : JournaledCell → JournalLine → (old new : List MemState) → Type 0
LineCalls s (line.Plain l) old new = PlainCalls s l old new
LineCalls s (line.Image h) old new = OpensJournal s h.0 old new
LineCalls s (line.Stop h call leave c) old new =
    (image : List ℕ) → stop_refused s.cell h.0 (step_of c) ≡ None → image_after s.cell h.0 (step_of c) ≡ Some image
    → UsesDisk (IsStopped image call leave) h.0 old new

-- a line that says this, and ends so, has the disks do that if it is answered
abbrev pub EndCalls : LineEnd → JournaledCell → Result (Option JournalLine) ParseFault → (old new : List MemState) → Type 0
EndCalls end.GoesOn s (Ok (Some l)) old new = LineCalls s l old new
EndCalls end.GoesOn s said old new = Unit {0}
EndCalls end.Stops s said old new = Unit {0}
EndCalls end.NoMemory s said old new = Unit {0}
EndCalls end.Full s said old new = Unit {0}

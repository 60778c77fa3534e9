-- The status that the process ends with (own).
use Rattle.std.specs.Prelude.{ℕ, Bool, true, false, Option, Some, None, Result, Ok, Err}
use Rattle.cds_base.specs.declared.words.WordsFault.{WordsFault}
use Rattle.cds_base.specs.declared.words.WordsFault.TheVariants as words
use Rattle.cds_stamps.specs.declared.alloc_or.AllocOr.{AllocOr}
use Rattle.cds_stamps.specs.declared.alloc_or.AllocOr.TheVariants as alloc
use Rattle.house_journal.specs.declared.journal.JournalFault.{JournalFault}
use Rattle.house_journal.specs.declared.journal.JournalFault.TheVariants as journal
use Rattle.house_serving.specs.declared.ending.Ending.{Ending}
use Rattle.house_serving.specs.declared.ending.Ending.TheVariants as ending
use Rattle.house_program.specs.declared.folder.FolderFault.{FolderFault}
use Rattle.house_program.specs.declared.folder.FolderFault.TheVariants as folder
use Rattle.house_program.specs.declared.status.Status.{Status}
use Rattle.house_program.specs.declared.status.Status.TheVariants as status

-- its number
abbrev pub code_of : Status → ℕ
code_of status.Ok = 0
code_of status.Usage = 2
code_of status.BadInput = 3
code_of status.ReadFault = 4
code_of status.WriteFault = 5
code_of status.OutOfMemory = 6
code_of status.Full = 7
code_of status.DiskFault = 8
code_of status.BadFolder = 9
code_of status.Taken = 10
code_of status.OtherVersion = 11
code_of status.OtherDeeds = 12

-- without the words of the command line
abbrev pub status_without_words : WordsFault → Status
status_without_words words.NoText = status.Usage
status_without_words words.OutOfMemory = status.OutOfMemory

-- where a segment is not begun
abbrev pub status_not_begun : AllocOr JournalFault → Status
status_not_begun (alloc.Fault journal.Full) = status.Full
status_not_begun (alloc.Fault journal.DiskFault) = status.DiskFault
status_not_begun (alloc.Fault journal.Reopen) = status.DiskFault
status_not_begun alloc.OutOfMemory = status.OutOfMemory

-- a segment is not begun since a call of its disk failed
abbrev pub is_disk_fault : AllocOr JournalFault → Bool
is_disk_fault (alloc.Fault journal.DiskFault) = true
is_disk_fault (alloc.Fault journal.Full) = false
is_disk_fault (alloc.Fault journal.Reopen) = false
is_disk_fault alloc.OutOfMemory = false

-- a run ended since a call of its disk failed
abbrev pub ends_by_disk : Ending → Bool
ends_by_disk ending.DiskFault = true
ends_by_disk _ = false

-- where a call of the folder was not done
abbrev pub status_of_folder : FolderFault → Status
status_of_folder folder.Unreadable = status.BadFolder
status_of_folder folder.Taken = status.Taken
status_of_folder folder.Failed = status.DiskFault
status_of_folder folder.OutOfMemory = status.OutOfMemory

-- after a run; none, where the next segment is begun
abbrev pub status_after : Ending → Option Status
status_after ending.InputEnds = Some status.Ok
status_after ending.BadInput = Some status.BadInput
status_after ending.ReadFault = Some status.ReadFault
status_after ending.WriteFault = Some status.WriteFault
status_after ending.OutOfMemory = Some status.OutOfMemory
status_after ending.Full = Some status.Full
status_after ending.DiskFault = Some status.DiskFault
status_after ending.Grown = None

-- whichever came
abbrev pub status_of : Result Status Status → Status
status_of (Ok s) = s
status_of (Err s) = s

-- What the form `journal` makes of its input, and what it leaves on the disks of its houses.
use Rattle.std.specs.Prelude.{◌≡◌, ℕ, Bool, true, false, List, []}
use Rattle.cell_script.specs.Words.{words_of}
use Rattle.house_journal.specs.MemoryDisks.{MemState}
use Rattle.journal_forms.specs.JournalLines.{said_in}
use Rattle.reply_buffer.specs.FaultTexts.{line_fault_text}
use Rattle.reply_buffer.specs.declared.replies.LineEnd.{LineEnd}
use Rattle.reply_buffer.specs.declared.replies.LineEnd.TheVariants as line
use Rattle.line_forms.specs.Demand.{LineRule}
use Rattle.journal_replay.specs.CellDisks.{ArePutting, AreUsable, GiveImages, HoldAll}
use Rattle.journal_replay.specs.CellJournals.{JournaledCell, journal_response, puts_by}
use Rattle.journal_replay.specs.declared.journals.Journals.{Journals}

-- it says nothing at the end of the input
abbrev pub journal_rule : LineRule JournaledCell
journal_rule = record { response = journal_response; end_text = λ s. []; fault_text = line_fault_text }

-- the journals of a state are on the disks, whatever a crash leaves, and each gives the image of
-- its house in the cell
abbrev pub AreOnDisks : List MemState → JournaledCell → Type 0
AreOnDisks disks s = HoldAll disks s.lists × GiveImages s

-- the same of a line that is under way: of the images that it puts, those up to one of them are on
-- the disks, and this one perhaps
abbrev pub ArePut : List MemState → (number : ℕ) → JournaledCell → (line : List ℕ) → Type 0
ArePut disks number s line = ArePutting disks s.lists (puts_by s (said_in (words_of line))) × GiveImages s

-- the disks
abbrev pub disks_of : Journals → List MemState
disks_of j = j.keeper.disks.items

-- whether a line ended so because a journal has no room
abbrev pub is_full : LineEnd → Bool
is_full line.Full = true
is_full other = false

-- after a line that ended so all disks are there and usable, and it is known whether a journal had
-- no room
abbrev pub IsAfter : LineEnd → Journals → Type 0
IsAfter end j = AreUsable (disks_of j) × (j.keeper.full ≡ is_full end)

-- Words of private contracts: the parts of the work on a line of the form `journal`.
use Rattle.std.specs.Prelude.{◌≡◌, ℕ, ◌≤◌, Bool, true, false, if◌then◌else◌, List, [], ◌∷◌, Option, Some, None, Result, Ok, Err, OnOk}
use Rattle.house_journal.specs.MemoryDisks.{MemState}
use Rattle.cell_model.specs.Cells.{Cell}
use Rattle.cell_model.specs.Sets.{has}
use Rattle.cell_model.specs.Steps.{outcome, replay_from}
use Rattle.script_answers.specs.declared.answer.Answer.{Answer}
use Rattle.script_answers.specs.declared.answer.Answer.TheVariants as script
use Rattle.journal_forms.specs.declared.journal_answer.JournalAnswer.{JournalAnswer}
use Rattle.journal_forms.specs.declared.journal_answer.JournalAnswer.TheVariants as journal
use Rattle.journal_forms.specs.declared.journal_line.JournalLine.{JournalLine}
use Rattle.cds_cell.specs.declared.cell.Cell as declared
use Rattle.cds_cell.specs.declared.marks.Mark.{Mark}
use Rattle.cds_cell.specs.CommandImages.{octets_at}
use Rattle.cds_cell.specs.Marks.{IsMark}
use Rattle.cds_cell.specs.ModelCells.{Stands}
use Rattle.script_replay.specs.Replies.{Said}
use Rattle.journal_replay.specs.Journaled.{journal_said, stop_refused}
use Rattle.journal_replay.specs.CellJournals.{JournaledCell, Lists, Put, acting_houses, lacks_room, puts_in, puts_of, state_after, with_put, with_puts}
use Rattle.journal_replay.specs.CellDisks.{AreKept, ArePutting, AreUsable, GiveImages, HoldAll}
use Rattle.journal_replay.specs.Keeping.{StandsKeeper}
use Rattle.disk_journals.specs.declared.faults.Unkept.{Unkept}
use Rattle.disk_journals.specs.declared.faults.Unkept.TheVariants.{Full, OutOfMemory}
use Rattle.cell_model.specs.Commands.{Command}
use Rattle.journal_replay.specs.declared.keeper.Keeper.{Keeper}

-- whether it is a refusal
abbrev pub is_refusal : Answer → Bool
is_refusal (script.Refused r) = true
is_refusal _ = false

-- puts were given up under way: memory ran out, or a journal has no room for one of them
abbrev pub GivesUp : Unkept → List MemState → Lists → List Put → Type 0
GivesUp OutOfMemory disks lists ps = ArePutting disks lists ps
GivesUp Full disks lists ps = ArePutting disks lists ps × (lacks_room lists ps ≡ true)

-- whether a journal had no room so far: it is known so exactly if that was the reason, and else as
-- before
abbrev pub Tells : {A : Type 0} → Result A Unkept → (before after : Bool) → Type 0
Tells (Ok x) before after = after ≡ before
Tells (Err Full) before after = after ≡ true
Tells (Err OutOfMemory) before after = after ≡ before

-- each journal is open on its disk, unless the work was given up; and no disk is set to stop, if
-- none was before
abbrev pub KeepsDisks : {A : Type 0} → Result A Unkept → (old new : Keeper) → Type 0
KeepsDisks r old new =
    OnOk r (AreKept new.houses.items new.disks.items)
    × (AreUsable old.disks.items → AreUsable new.disks.items)

-- images were put, each in its journal, which had room; or this was given up
abbrev pub PutsAll : Result (Unit {0}) Unkept → List MemState → Lists → List Put → Type 0
PutsAll (Ok x) disks lists ps = HoldAll disks (with_puts ps lists) × (lacks_room lists ps ≡ false)
PutsAll (Err e) disks lists ps = GivesUp e disks lists ps

-- a put was stopped, and its journal has the image or not; or this was given up
abbrev pub StopsPut : Result Bool Unkept → List MemState → Lists → (after : Bool) → Put → Type 0
StopsPut (Ok answered) disks lists after p =
    (answered ≡ after) × HoldAll disks (if after then with_put p lists else lists)
    × (lacks_room lists (p ∷ []) ≡ false)
StopsPut (Err e) disks lists after p = GivesUp e disks lists (p ∷ [])

-- what a journal gives is the image of its house; and nothing of a house that was not made
abbrev pub IsGiven : Option (List ℕ) → Cell → (h : ℕ) → Type 0
IsGiven (Some octets) g h = (octets ≡ octets_at g h) × (has h g.made ≡ true)
IsGiven None g h = 1 ≤ h → has h g.made ≡ false

-- the puts of commands: the houses that act put their images after them
abbrev pub said_puts : JournaledCell → Said → List Put
said_puts s said = puts_of (replay_from s.cell said.steps) (acting_houses s.cell said.steps) s.lists

-- commands are done and answered, and their puts are
pub record AreDone (a : Answer) (k : Keeper) (s : JournaledCell) (said : Said) : Type 0 where
  pub answer : said.answer ≡ Some a
  pub stands : StandsKeeper k
      (record
      { cell = replay_from s.cell said.steps; lists = with_puts (said_puts s said) s.lists })
  pub room : lacks_room s.lists (said_puts s said) ≡ false

-- so they are, or they were given up
abbrev pub Does : Result Answer Unkept → Keeper → JournaledCell → Said → Type 0
Does (Ok a) k s said = AreDone a k s said
Does (Err e) k s said = GivesUp e k.disks.items s.lists (said_puts s said)

-- a line is answered, and all is as it leaves it
pub record IsReplied (a : JournalAnswer) (k : Keeper) (s : JournaledCell) (l : JournalLine) : Type
    0 where
  pub answer : (journal_said s.cell l).answer ≡ Some a
  pub stands : StandsKeeper k (state_after s l)
  pub room : lacks_room s.lists (puts_in s l) ≡ false

-- so it is, or it was given up
abbrev pub Replies : Result JournalAnswer Unkept → Keeper → JournaledCell → JournalLine → Type 0
Replies (Ok a) k s l = IsReplied a k s l
Replies (Err e) k s l = GivesUp e k.disks.items s.lists (puts_in s l)

-- a command was done on the cell that is not refused to be stopped at a house, this is the mark
-- before it, and the house has not put its image
pub record HasDone (k : Keeper) (s : JournaledCell) (h : ℕ) (c : Command) (mark : Mark) : Type 0 where
  pub before : declared.Cell
  pub stood : Stands before s.cell
  pub marks : IsMark mark before h c
  pub image : mark.image.items ≡ octets_at s.cell h
  pub allowed : stop_refused s.cell h c ≡ None
  pub now : Stands k.replayer.cell (outcome s.cell c).cell
  pub disks : HoldAll k.disks.items s.lists
  pub gives : GiveImages s

-- the answer to a command, unless its put was stopped, or it was given up
abbrev pub answered_unless : Result (Option JournalAnswer) Unkept → Answer → Result JournalAnswer Unkept
answered_unless (Ok None) a = Ok (journal.Plain a)
answered_unless (Ok (Some stopped)) a = Ok stopped
answered_unless (Err e) a = Err e

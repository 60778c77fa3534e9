-- What is left after a line that was answered, and how it ends.
use Rattle.std.proofs.Common.{◌≡◌, ℕ, Bool, true, false, List, [], ◌++◌, refl, sym, ap, subst, if◌then◌else◌}
use Rattle.std.specs.Prelude.{Some, Result, Ok, Err, IfErr, IsErrAnd}
use Rattle.std.specs.Option.{option_map, option_map_or}
use Rattle.house_journal.specs.MemoryDisks.{MemState}
use Rattle.cell_script.specs.declared.fault.ParseFault.{ParseFault}
use Rattle.cds_stamps.specs.declared.numbers.HouseNo.{HouseNo}
use Rattle.cell_script.specs.declared.command.ScriptLine.{ScriptLine}
use Rattle.cds_cell.specs.CommandImages.{octets_at}
use Rattle.cds_cell.specs.ModelCells.{Stands}
use Rattle.script_answers.specs.declared.answer.Answer.{Answer}
use Rattle.script_answers.specs.declared.answer.Answer.TheVariants as plain
use Rattle.journal_forms.specs.declared.journal_answer.JournalAnswer.TheVariants as answer
use Rattle.journal_forms.specs.declared.journal_line.JournalLine.TheVariants as line
use Rattle.script_replay.specs.declared.replayer.Replayer.{Replayer}
use Rattle.script_replay.specs.Replies.{asked_of, said_of}
use Rattle.journal_forms.specs.JournalTexts.{journal_text}
use Rattle.journal_forms.specs.declared.journal_answer.JournalAnswer.{JournalAnswer}
use Rattle.journal_forms.specs.declared.journal_line.JournalLine.{JournalLine}
use Rattle.reply_buffer.specs.LineEnds.{Ends, Faults}
use Rattle.reply_buffer.specs.Responses.{GoesOn, Fills}
use Rattle.reply_buffer.specs.declared.replies.LineEnd.{LineEnd}
use Rattle.reply_buffer.specs.declared.replies.LineEnd.TheVariants as end
use Rattle.disk_journals.specs.declared.faults.Unkept.{Unkept}
use Rattle.disk_journals.specs.declared.faults.Unkept.TheVariants.{Full, OutOfMemory}
use Rattle.journal_replay.specs.declared.keeper.Keeper.{Keeper}
use Rattle.journal_replay.specs.declared.journals.Journals.{Journals}
use Rattle.journal_replay.specs.Journaled.{journal_said}
use Rattle.journal_replay.specs.CellJournals.{JournaledCell, lacks_room, lasts, puts_in, reply_text, response_to, state_after, with_puts}
use Rattle.journal_replay.specs.CellDisks.{ArePutting, HoldAll}
use Rattle.journal_replay.specs.Keeping.{LeavesDisks, StandsJournals, StandsKeeper}
use Rattle.journal_replay.specs.PrivateJournals.{AreDone, GivesUp, IsReplied}
use Rattle.journal_replay.proofs.Putting.{putting_at_end, putting_at_start}

-- a line of `run`
pub plain_replied : (k : Keeper) (s : JournaledCell) (l : ScriptLine) (a : Answer) → AreDone a k s (said_of s.cell l)
    → IsReplied (answer.Plain a) k s (line.Plain l)
plain_replied k s l a done = record { answer = ap (option_map answer.Plain) done.answer; stands = done.stands; room = done.room }

-- a question for an image, after which all is as before
pub image_replied : (old k : Keeper) (s : JournaledCell) (h : HouseNo) (a : Answer) → k.replayer ≡ old.replayer
    → a ≡ asked_of s.cell h.0 (plain.Octets (octets_at s.cell h.0)) → HoldAll k.disks.items s.lists → StandsKeeper old s
    → IsReplied (answer.Plain a) k s (line.Image h)
image_replied old k s h a same is hold stands = record {
  answer = ap (λ (a : Answer). Some (answer.Plain a)) (sym is);
  stands = record { cell = subst (λ (r : Replayer). Stands r.cell s.cell) (sym same) stands.cell; disks = hold; gives = stands.gives };
  room = refl;
}

-- the puts of a line that was answered are done, or leave nothing
pub replied_putting : (disks : List MemState) (s : JournaledCell) (l : JournalLine) → HoldAll disks (state_after s l).lists → ArePutting disks s.lists (puts_in s l)
replied_putting disks s l hold = by_lasts (lasts l) hold
  where
    by_lasts : (b : Bool) → HoldAll disks (if b then with_puts (puts_in s l) s.lists else s.lists) → ArePutting disks s.lists (puts_in s l)
    by_lasts true hold = putting_at_end disks s.lists (puts_in s l) hold
    by_lasts false hold = putting_at_start disks s.lists (puts_in s l) hold

-- memory ran out after an answer
pub given_up_behind : (disks : List MemState) (s : JournaledCell) (l : JournalLine) (e : Unkept) → e ≡ OutOfMemory
    → HoldAll disks (state_after s l).lists → GivesUp e disks s.lists (puts_in s l)
given_up_behind disks s l Full is hold = absurd (cc)
given_up_behind disks s l OutOfMemory is hold = replied_putting disks s l hold

pub err_given_up : (disks : List MemState) (s : JournaledCell) (l : JournalLine) (r : Result (Unit {0}) Unkept) → IsErrAnd r (λ e. e ≡ OutOfMemory)
    → HoldAll disks (state_after s l).lists → IfErr r (λ e. GivesUp e disks s.lists (puts_in s l))
err_given_up disks s l (Ok x) is hold = absurd is
err_given_up disks s l (Err e) is hold = given_up_behind disks s l e is hold

-- the text of an answer
pub answer_text : (number : ℕ) (s : JournaledCell) (l : JournalLine) (a : JournalAnswer) → (journal_said s.cell l).answer ≡ Some a
    → reply_text number s l ≡ journal_text number a
answer_text number s l a is = ap (λ o. option_map_or (journal_text number) o []) is

-- a line that said something
module _ (number : ℕ) (s : JournaledCell) (l : JournalLine) (waited waits : List ℕ) (j : Journals) where
  line_response : (b : Bool) → lacks_room s.lists (puts_in s l) ≡ b
      → response_to number s (Ok (Some l)) ≡ (if b then Fills else GoesOn (reply_text number s l) (state_after s l))
  line_response b is = ap (λ (c : Bool). if c then Fills else GoesOn (reply_text number s l) (state_after s l)) is

  pub line_ends : (waits ≡ waited ++ reply_text number s l) × StandsJournals j (state_after s l) × (lacks_room s.lists (puts_in s l) ≡ false)
      → Ends end.GoesOn (response_to number s (Ok (Some l))) waited waits (StandsJournals j)
  line_ends done = rw (line_response false done.2) (done.0, done.1)

  pub line_full : waits ≡ waited → lacks_room s.lists (puts_in s l) ≡ true → Ends end.Full (response_to number s (Ok (Some l))) waited waits (StandsJournals j)
  line_full same full = rw (line_response true full) same

-- a line at fault leaves all disks as they were
pub fault_leaves : (e : LineEnd) (text waited waits : List ℕ) (s : JournaledCell) (fault : ParseFault) (j : Journals) → Faults e text waited waits
    → HoldAll j.keeper.disks.items s.lists → LeavesDisks e s (Err fault) j
fault_leaves end.GoesOn text waited waits s fault j faults hold = tt
fault_leaves end.Stops text waited waits s fault j faults hold = hold
fault_leaves end.NoMemory text waited waits s fault j faults hold = hold
fault_leaves end.Full text waited waits s fault j faults hold = absurd faults

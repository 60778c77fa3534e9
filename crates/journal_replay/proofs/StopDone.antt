-- A command that was done on the cell, whose put is stopped: what is replied, and what that leaves.
use Rattle.std.proofs.Common.{◌≡◌, ℕ, ◌≤◌, Bool, true, false, List, [], ◌∷◌, length, refl, sym, ◌∙◌, ap, subst, if◌then◌else◌}
use Rattle.std.specs.Prelude.{Option, Some, None, Result, IsErrAnd}
use Rattle.std.specs.Str.{bytes_eq}
use Rattle.cds_stamps.specs.declared.numbers.HouseNo.{HouseNo}
use Rattle.cell_model.specs.Cells.{Cell}
use Rattle.cell_model.specs.Commands as model
use Rattle.cell_model.specs.Reached.{IsReached}
use Rattle.cell_model.specs.Sets.{has}
use Rattle.cell_model.specs.Steps.{outcome, replay_from}
use Rattle.cell_script.specs.declared.command.Command.{Command}
use Rattle.script_answers.specs.declared.answer.Answer.{Answer}
use Rattle.cds_cell.specs.declared.marks.Mark.{Mark}
use Rattle.cds_cell.specs.CommandImages.{actors, crash_losing, image_after, octets_at}
use Rattle.cds_cell.specs.Recorded.{image_at}
use Rattle.cds_cell.specs.Scripted.{answer_of, step_of}
use Rattle.cds_cell.specs.ModelCells.{Stands}
use Rattle.house_journal.specs.declared.leave.Leave.{Leave}
use Rattle.journal_forms.specs.declared.journal_answer.JournalAnswer.{JournalAnswer}
use Rattle.journal_forms.specs.declared.journal_answer.JournalAnswer.TheVariants as answer
use Rattle.journal_forms.specs.declared.journal_line.JournalLine.{JournalLine}
use Rattle.journal_forms.specs.declared.journal_line.JournalLine.TheVariants as line
use Rattle.disk_journals.specs.KeptJournals.{is_last, stops_after}
use Rattle.disk_journals.specs.declared.faults.Unkept.{Unkept}
use Rattle.disk_journals.specs.declared.faults.Unkept.TheVariants.{OutOfMemory}
use Rattle.journal_replay.specs.declared.keeper.Keeper.{Keeper}
use Rattle.journal_replay.specs.CellJournals.{JournaledCell, Put, lacks_room, puts_in, with_put}
use Rattle.journal_replay.specs.CellDisks.{HoldAll, disk_count, image_in}
use Rattle.journal_replay.specs.PrivateJournals.{GivesUp, HasDone, IsReplied, Replies}
use Rattle.journal_replay.proofs.Giving.{image_of_made, made_of_image}
use Rattle.journal_replay.proofs.StopPuts.{image_told, made_then, new_image, not_refused}
use Rattle.journal_replay.proofs.StopReplies.{replied_after, replied_before, replied_done, stopped_memory, stopped_put_is, stopped_up}

module _ (old k : Keeper) (s : JournaledCell) (house : HouseNo) (call : ℕ) (leave : Leave) (c : Command) (mark : Mark) (first : 1 ≤ house.0)
    (few : house.0 ≤ disk_count) (done : HasDone old s house.0 (step_of c) mark) where
  abbrev h : ℕ
  h = house.0

  abbrev stop : JournalLine
  stop = line.Stop house call leave c

  abbrev next : Cell
  next = (outcome s.cell (step_of c)).cell

  -- only this house acts
  pub acts_alone : actors s.cell (step_of c) ≡ h ∷ []
  acts_alone = (not_refused s.cell h (step_of c) done.allowed).1

  -- the house is there after the command
  pub has_image : image_in next h ≡ None → ⊥
  has_image none =
      let made = made_then s.cell h (step_of c) (not_refused s.cell h (step_of c) done.allowed).0 in
      absurd (let e = sym (image_of_made next h made) ∙ none in cc)

  -- its image there, and the one at the mark
  pub image_then : (o : Option (List ℕ)) (image : List ℕ) (b : Bool) → o ≡ Some image → o ≡ image_in next h → b ≡ bytes_eq image mark.image.items
      → image_after s.cell h (step_of c) ≡ (if b then None else Some image)
  image_then o image b some told test =
      image_told s.cell h (step_of c) mark.image.items image b done.image (sym (made_of_image next h image (sym told ∙ some)).1) test

  module _ (stays : (g : Cell) (c : model.Command) (x : ℕ) → IsReached g → has x (actors g c) ≡ false → image_at (outcome g c).cell x ≡ image_at g x) where
    -- the command leaves the image
    pub unchanged : (a : Answer) → image_after s.cell h (step_of c) ≡ None → answer_of (outcome s.cell (step_of c)).answer ≡ Some a → HoldAll k.disks.items s.lists
        → Stands k.replayer.cell next → IsReplied (answer.Plain a) k s stop
    unchanged a none answered hold cell =
        replied_done stays a k s stop h (stops_after call leave) (step_of c) refl refl first few done.stood.reached done.gives done.allowed none answered hold cell

  module _ (image : List ℕ) (some : image_after s.cell h (step_of c) ≡ Some image) where
    abbrev p : Put
    p = record { house = h; image = image }

    -- the image is another than the last of the journal
    pub other : (is_last image (s.lists h) ≡ false) × (s.lists h ≡ [] → ⊥)
    other = new_image s h (step_of c) image first few done.gives done.allowed some

    -- it is the only put
    pub puts : puts_in s stop ≡ p ∷ []
    puts = stopped_put_is s stop h (step_of c) image refl first few done.gives done.allowed some

    -- the put was given up
    pub given_up : (r : Result JournalAnswer Unkept) (x : Unkept) → IsErrAnd r (λ e. e ≡ x) → GivesUp x k.disks.items s.lists (p ∷ []) → Replies r k s stop
    given_up r x is up = stopped_up k s stop p r x is puts up

    -- memory ran out after it
    pub out_of_memory : (r : Result JournalAnswer Unkept) → IsErrAnd r (λ e. e ≡ OutOfMemory)
        → HoldAll k.disks.items (if stops_after call leave then with_put p s.lists else s.lists) → Replies r k s stop
    out_of_memory r is hold = stopped_memory k s stop (stops_after call leave) p r is puts hold

    -- a put that was done had room
    pub never_lacks : lacks_room s.lists (p ∷ []) ≡ false → lacks_room s.lists (puts_in s stop) ≡ true → ⊥
    never_lacks room none = absurd (let e = sym room ∙ subst (λ (ps : List Put). lacks_room s.lists ps ≡ true) puts none in cc)

    module _ (stays : (g : Cell) (c : model.Command) (x : ℕ) → IsReached g → has x (actors g c) ≡ false → image_at (outcome g c).cell x ≡ image_at g x) where
      -- the journal has the image
      pub stopped_after : stops_after call leave ≡ true → HoldAll k.disks.items (if stops_after call leave then with_put p s.lists else s.lists)
          → lacks_room s.lists (p ∷ []) ≡ false → (posted : ℕ) → posted ≡ mark.posted
          → Stands k.replayer.cell (replay_from next (crash_losing next h posted)) → IsReplied answer.StoppedAfter k s stop
      stopped_after is hold room posted same cell =
          let count : posted ≡ length s.cell.bag = same ∙ done.marks.posted ∙ done.stood.stands.bag.posted in
          replied_after stays k s stop h (stops_after call leave) (step_of c) image is refl refl refl first few done.stood.reached done.gives done.allowed some
          (subst (λ (b : Bool). HoldAll k.disks.items (if b then with_put p s.lists else s.lists)) is hold, room)
          (subst (λ (n : ℕ). Stands k.replayer.cell (replay_from next (crash_losing next h n))) count cell)

      -- it has not
      pub stopped_before : stops_after call leave ≡ false → HoldAll k.disks.items (if stops_after call leave then with_put p s.lists else s.lists)
          → lacks_room s.lists (p ∷ []) ≡ false → Stands k.replayer.cell (outcome s.cell (model.Crash h)).cell → IsReplied answer.StoppedBefore k s stop
      stopped_before is hold room cell =
          replied_before stays k s stop h (stops_after call leave) (step_of c) image is refl refl refl first few done.stood.reached done.gives done.allowed some
          (subst (λ (b : Bool). HoldAll k.disks.items (if b then with_put p s.lists else s.lists)) is hold, room) cell

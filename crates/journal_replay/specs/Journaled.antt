-- Which commands of the model a line of the form `journal` is, and what is answered to it (own,
-- after C705, clearinghouses).
use Rattle.std.specs.Prelude.{ℕ, Bool, true, false, ◌==◌, not, if◌then◌else◌, List, [], ◌∷◌, length, Option, Some, None, is_none}
use Rattle.std.specs.Option.{option_map}
use Rattle.disk_journals.specs.KeptJournals.{stops_after}
use Rattle.cell_model.specs.Cells.{Cell}
use Rattle.cell_model.specs.Commands as command
use Rattle.cell_model.specs.Commands.{Command}
use Rattle.cell_model.specs.Sets.{has}
use Rattle.cell_model.specs.Steps.{message_at, outcome}
use Rattle.script_answers.specs.declared.answer.Answer.TheVariants as plain
use Rattle.script_answers.specs.declared.answer.ScriptRefusal.TheVariants as why
use Rattle.cds_cell.specs.CommandImages.{actors, crash_losing, image_after, octets_at}
use Rattle.cds_cell.specs.Scripted.{answer_of, step_of}
use Rattle.journal_forms.specs.declared.journal_line.JournalLine.{JournalLine}
use Rattle.journal_forms.specs.declared.journal_line.JournalLine.TheVariants as line
use Rattle.journal_forms.specs.declared.journal_answer.JournalAnswer.{JournalAnswer}
use Rattle.journal_forms.specs.declared.journal_answer.JournalAnswer.TheVariants as answer
use Rattle.script_replay.specs.Replies.{asked_of, said_of}

-- the commands of the model that a line is, and the answer to it (own)
pub record JournalSaid : Type 0 where
  pub steps : List Command
  pub answer : Option JournalAnswer

-- a line that is no command (own)
abbrev pub says : JournalAnswer → JournalSaid
says a = record { steps = []; answer = Some a }

-- ---- stops

-- a command is the delivery of a message that is not there (own)
abbrev pub lacks_message : Cell → Command → Bool
lacks_message g (command.Deliver n) = is_none (message_at g n)
lacks_message g c = false

-- the house is the only one of these (own)
abbrev pub is_only : ℕ → List ℕ → Bool
is_only h [] = false
is_only h (x ∷ []) = x == h
is_only h (x ∷ y ∷ ys) = false

-- why a command is not to be stopped at a house: there is no such house, or no such message, or
-- another house acts (own)
abbrev pub stop_refused : Cell → (h : ℕ) → Command → Option JournalAnswer
stop_refused g h c =
    if not (has h g.made) then Some (answer.Plain (plain.Refused why.NoHouse))
    else (if lacks_message g c then Some (answer.Plain (plain.Refused why.NoMessage))
    else (if is_only h (actors g c) then None else Some answer.NotActing))

-- a command is done and answered (own)
abbrev pub command_done : Cell → Command → JournalSaid
command_done g c = record { steps = c ∷ []; answer = option_map answer.Plain (answer_of (outcome g c).answer) }

-- a command is stopped, and its house crashes: with what it did, but without the messages that it
-- posted; or as it was before (own)
abbrev pub command_stopped : Cell → (h : ℕ) → (after : Bool) → Command → JournalSaid
command_stopped g h true c = record { steps = c ∷ crash_losing (outcome g c).cell h (length g.bag); answer = Some answer.StoppedAfter }
command_stopped g h false c = record { steps = command.Crash h ∷ []; answer = Some answer.StoppedBefore }

-- a command that leaves the image of the house as it is, is not stopped: nothing is put (own)
abbrev pub stopped_if : Cell → (h : ℕ) → (after : Bool) → Command → (image : Option (List ℕ)) → JournalSaid
stopped_if g h after c None = command_done g c
stopped_if g h after c (Some image) = command_stopped g h after c

-- a command is stopped at a house, unless that is refused (own)
abbrev pub stop_unless : Cell → (h : ℕ) → (after : Bool) → Command → Option JournalAnswer → JournalSaid
stop_unless g h after c (Some refused) = says refused
stop_unless g h after c None = stopped_if g h after c (image_after g h c)

-- what a line that stops a command does and is answered (own)
abbrev pub stop_said : Cell → (h : ℕ) → (after : Bool) → Command → JournalSaid
stop_said g h after c = stop_unless g h after c (stop_refused g h c)

-- ---- lines

-- what a line does and is answered (own)
abbrev pub journal_said : Cell → JournalLine → JournalSaid
journal_said g (line.Plain l) = record { steps = (said_of g l).steps; answer = option_map answer.Plain (said_of g l).answer }
journal_said g (line.Image h) = says (answer.Plain (asked_of g h.0 (plain.Octets (octets_at g h.0))))
journal_said g (line.Stop h call leave c) = stop_said g h.0 (stops_after call leave) (step_of c)

-- What a run of the form `journal` wrote of a script.
use Rattle.std.specs.Prelude.{◌≡◌, ℕ, List, [], ◌∷◌, ◌++◌, Some}
use Rattle.cds_stamps.specs.declared.stamp.Stamp.{Stamp}
use Rattle.cell_model.specs.Agreement.{Converges}
use Rattle.cell_model.specs.Cells.{Cell, empty_cell}
use Rattle.cell_model.specs.Commands.{Command, Complete}
use Rattle.cell_model.specs.Skulks.{RaisesUpTo}
use Rattle.cell_model.specs.Steps.{outcome, replay_from}
use Rattle.script_answers.specs.declared.answer.Answer.TheVariants as plain
use Rattle.journal_forms.specs.declared.journal_answer.JournalAnswer.TheVariants as answer
use Rattle.journal_forms.specs.declared.journal_line.JournalLine.{JournalLine}
use Rattle.journal_forms.specs.declared.journal_line.JournalLine.TheVariants as line
use Rattle.line_forms.specs.Dialogues.{NumberedOf}
use Rattle.journal_replay.specs.Journaled.{journal_said}
use Rattle.journal_replay.specs.CellJournals.{empty_state, journal_dialogue}
use Rattle.script_replay.specs.Headline.{Finds, commands_from}
use Rattle.cds_base.specs.RunEnds.{Run}
use Rattle.script_replay.specs.Scripts.{IsReplayBy, state_after_lines}

-- ---- what is written

-- the effective commands of lines: those that the model has to do
abbrev pub effective : List (NumberedOf JournalLine) → List Command
effective = commands_from (λ g l. (journal_said g l).steps) empty_cell

-- a line that is answered that the skulk t is complete is one command of the model, which completes
-- it (own, after C705, skulks)
abbrev pub TellsCompletedIn : Cell → JournalLine → Type 0
TellsCompletedIn g l =
    (t : Stamp) (ns : List ℕ) → (journal_said g l).answer ≡ Some (answer.Plain (plain.Complete t ns))
    → (c : Command) × ((journal_said g l).steps ≡ c ∷ []) × ((outcome g c).answer ≡ Complete t ns)

-- A script was read, and the transcript of its effective commands was written. The cell after each
-- front of its lines is the model's after their effective commands; a line that is answered that a
-- skulk is complete is a command that completes it, whose stamp becomes the AllUpTo of its house;
-- the replicas of its epoch and of later ones agree from then on, also after crashes inside a step;
-- and imports find what the search reaches (own, after C705, skulks)
pub record IsJournalReplay (run : Run) : Type 0 where
  pub replay : IsReplayBy journal_dialogue empty_state run
  pub told : (g : Cell) (l : JournalLine) → TellsCompletedIn g l
  pub cells : (front rest : List (NumberedOf JournalLine)) → replay.said ≡ front ++ rest
      → (state_after_lines journal_dialogue empty_state front).cell ≡ replay_from empty_cell (effective front)
  pub settled : (front rest : List (NumberedOf JournalLine)) → replay.said ≡ front ++ rest → Converges (effective front)
  pub raised : (commands : List Command) (c : Command) → RaisesUpTo commands c
  pub found : Finds (λ early. replay_from empty_cell (effective early)) line.Plain replay.said

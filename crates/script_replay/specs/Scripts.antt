-- Scripts and their transcripts.
use Rattle.std.specs.Prelude.{◌≡◌, ℕ, ◌+◌, List, [], ◌∷◌, ◌++◌, fold, Option, Some, None, Ok, Err, Result}
use Rattle.std.specs.Io.KnownBytes.{Consumes, Appends}
use Rattle.cds_base.specs.LineFaults.{IsLine}
use Rattle.cell_model.specs.Agreement.{Converges}
use Rattle.cell_model.specs.Cells.{Cell, empty_cell}
use Rattle.cell_model.specs.Commands.{Command}
use Rattle.cell_model.specs.Skulks.{RaisesUpTo}
use Rattle.cell_script.specs.declared.fault.ParseFault.{ParseFault}
use Rattle.cell_script.specs.declared.command.ScriptLine.{ScriptLine}
use Rattle.cell_script.specs.Words.{words_of}
use Rattle.cell_script.specs.CommandRows.{said_in}
use Rattle.script_replay.specs.Headline.{Finds, TellsCompleted, cell_after_script, commands_of}
use Rattle.line_forms.specs.Leaving.{text_of}
use Rattle.cds_base.specs.RunEnds.{Run}
use Rattle.line_forms.specs.Dialogues.{Dialogue, NumberedOf, transcript_by}
use Rattle.script_replay.specs.Replies.{Numbered, run_dialogue}

-- what line number says is in front of what the lines after it say, if it says anything
abbrev pub Says : {L : Type 0} → ℕ → Result (Option L) ParseFault → List (NumberedOf L) → (List (NumberedOf L) → Type 0) → Type 0
Says number (Ok None) said Behind = Behind said
Says {L} number (Ok (Some l)) said Behind =
    (rest : List (NumberedOf L)) × (said ≡ record { number = number; says = l } ∷ rest) × Behind rest
Says number (Err fault) said Behind = ⊥

-- the lines are in order, and this is what they say, from line number on; says tells what the words
-- of a line say
abbrev pub IsScriptOf : {L : Type 0} → (says : List (List ℕ) → Result (Option L) ParseFault) → ℕ → (lines : List (List ℕ))
    → List (NumberedOf L) → Type 0
IsScriptOf says number [] said = said ≡ []
IsScriptOf says number (l ∷ ls) said = IsLine number l × Says number (says (words_of l)) said (IsScriptOf says (number + 1) ls)

-- the same of a script of commands and questions
abbrev pub IsScript : ℕ → (lines : List (List ℕ)) → List Numbered → Type 0
IsScript = IsScriptOf said_in

-- the state of a form after lines
abbrev pub state_after_lines : {S L : Type 0} → Dialogue S L → S → List (NumberedOf L) → S
state_after_lines {S} {L} d = fold (λ (s : S) (l : NumberedOf L). d.after l.number s l.says)

-- a script was read, and its transcript by a form that answers line by line was written, from a
-- state on
pub record IsReplayBy {S L : Type 0} (d : Dialogue S L) (s : S) (run : Run) : Type 0 where
  pub lines : List (List ℕ)
  pub said : List (NumberedOf L)
  pub script : IsScriptOf d.says 1 lines said
  pub taken : Consumes run.left run.left' (text_of lines)
  pub written : Appends run.written run.written' (transcript_by d s said)

-- The same by the model, from a cell without houses on (own, after C705, skulks and the meaning of
-- AllUpTo)
pub record IsReplay (run : Run) : Type 0 where
  pub replay : IsReplayBy run_dialogue empty_cell run
  -- a line that is answered that a skulk is complete is a command that completes it
  pub told : (g : Cell) (l : ScriptLine) → TellsCompleted g l
  -- after each line: wherever a command so far completed a skulk, the replicas of its epoch and of
  -- later ones agree up to its stamp
  pub settled : (front rest : List Numbered) → replay.said ≡ front ++ rest
      → Converges (commands_of front)
  -- this stamp then is the AllUpTo of the house that completed it
  pub raised : (commands : List Command) (c : Command) → RaisesUpTo commands c
  -- imports find what the search reaches
  pub found : Finds cell_after_script (λ l. l) replay.said

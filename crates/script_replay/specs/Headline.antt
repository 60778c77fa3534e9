-- The commands of the model that lines make, and what a line that imports is answered.
use Rattle.std.specs.Prelude.{◌≡◌, ℕ, Bool, List, [], ◌∷◌, ◌++◌, Option, Some, None}
use Rattle.cds_stamps.specs.declared.numbers.HouseNo.{HouseNo}
use Rattle.cds_stamps.specs.declared.stamp.Stamp.{Stamp}
use Rattle.cell_model.specs.Agreement.{place_of}
use Rattle.cell_model.specs.Cells.{Cell, empty_cell}
use Rattle.cell_model.specs.Commands.{Command, Complete}
use Rattle.cell_model.specs.Steps.{outcome, replay, replay_from}
use Rattle.script_answers.specs.declared.answer.Answer.TheVariants as answer
use Rattle.cell_script.specs.declared.command.Question.TheVariants as question
use Rattle.cell_script.specs.declared.command.ScriptLine.{ScriptLine}
use Rattle.cell_script.specs.declared.command.ScriptLine.TheVariants as line
use Rattle.tower_codec.specs.declared.binding.StringBinding.{StringBinding}
use Rattle.server_entries.specs.declared.client.Wanted.{Wanted}
use Rattle.ns_import.specs.Imports.{IsImport}
use Rattle.cds_cell.specs.Readings.{cell_reader}
use Rattle.cds_cell.specs.Scripted.{step_of}
use Rattle.line_forms.specs.Dialogues.{NumberedOf}
use Rattle.script_replay.specs.Replies.{Numbered, reply_to, steps_of}

-- the commands of the model that lines make from a cell on, of whichever form the lines are (own)
abbrev pub commands_from : {L : Type 0} → (steps : Cell → L → List Command) → Cell → List (NumberedOf L) → List Command
commands_from steps g [] = []
commands_from steps g (l ∷ ls) = steps g l.says ++ commands_from steps (replay_from g (steps g l.says)) ls

-- those that the lines of a script make (own)
abbrev pub commands_of : List Numbered → List Command
commands_of = commands_from steps_of empty_cell

-- the cell after lines (own)
abbrev pub cell_after_script : List Numbered → Cell
cell_after_script said = replay (commands_of said)

-- the house and the directory that a line acts at, if it is a command that acts at one (own)
abbrev pub line_place : Cell → ScriptLine → Option (ℕ × ℕ)
line_place g (line.Cell c) = place_of g (step_of c)
line_place g (line.Question q) = None

-- a line that is answered that the skulk t is complete is one command of the model, which completes
-- it (own, after C705, skulks)
abbrev pub TellsCompleted : Cell → ScriptLine → Type 0
TellsCompleted g l =
    (t : Stamp) (ns : List ℕ) → reply_to g l ≡ Some (answer.Complete t ns)
    → (c : Command) × (steps_of g l ≡ c ∷ []) × ((outcome g c).answer ≡ Complete t ns)

-- ---- imports

-- an import that a line asks for (own)
pub record Importing : Type 0 where
  pub house : HouseNo
  pub high : Bool
  pub name : List (List ℕ)
  pub wanted : Wanted

-- the line that asks for it (own)
abbrev pub import_line : Importing → ScriptLine
import_line i = line.Question (question.Import i.house i.high i.name i.wanted.interface i.wanted.object i.wanted.tcp i.wanted.udp)

-- of the lines of a script, of whichever form: wherever one imports and is answered with bindings,
-- these are those of exactly the entries that the search reaches, each once and in its order, by
-- what the cell of that moment tells. cell_of is the cell after lines, and plain makes a line of
-- `run` one of these (own, after C706, importing bindings)
abbrev pub Finds : {L : Type 0} → (cell_of : List (NumberedOf L) → Cell) → (plain : ScriptLine → L)
    → List (NumberedOf L) → Type 0
Finds {L} cell_of plain said =
    (early late : List (NumberedOf L)) (l : NumberedOf L) (i : Importing) (bindings : List StringBinding) → said ≡ early ++ l ∷ late
    → l.says ≡ plain (import_line i) → reply_to (cell_of early) (import_line i) ≡ Some (answer.Bindings bindings)
    → IsImport (cell_reader (cell_of early) (Some i.house.0) i.high) i.wanted i.name bindings

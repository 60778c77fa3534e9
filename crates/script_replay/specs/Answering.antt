-- What `run` replies to a line.
use Rattle.std.specs.Prelude.{◌≡◌, Some}
use Rattle.cell_model.specs.Cells as model
use Rattle.cell_model.specs.Steps.{replay_from}
use Rattle.cell_script.specs.declared.command.ScriptLine.{ScriptLine}
use Rattle.script_answers.specs.declared.answer.Answer.{Answer}
use Rattle.cds_cell.specs.declared.cell.Cell.{Cell}
use Rattle.cds_cell.specs.ModelCells.{Stands}
use Rattle.script_replay.specs.Replies.{Said, said_of}

-- an answer and a cell are those of what is done to the model's
pub record IsDone (a : Answer) (c : Cell) (g : model.Cell) (said : Said) : Type 0 where
  pub answer : said.answer ≡ Some a
  pub stands : Stands c (replay_from g said.steps)

-- a reply and a cell are those of the model after a line
abbrev pub IsReply : Answer → Cell → model.Cell → ScriptLine → Type 0
IsReply a c g l = IsDone a c g (said_of g l)

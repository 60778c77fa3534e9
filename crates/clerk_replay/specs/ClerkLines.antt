-- What a replayer with a clerk stands for, and how it replies to a line.
use Rattle.std.specs.Prelude.{◌≡◌, ℕ, Some}
use Rattle.cell_script.specs.declared.command.ScriptLine.{ScriptLine}
use Rattle.script_answers.specs.declared.answer.Answer.{Answer}
use Rattle.cds_cell.specs.ModelCells as cell
use Rattle.clerk_replay.specs.declared.replayer.ClerkReplayer.{ClerkReplayer}
use Rattle.clerk_replay.specs.Clerking.{Clerked, clerked_after, reply_by_clerk}

-- its cell stands for the model's, and its clerk is this one
pub record Stands (r : ClerkReplayer) (s : Clerked) : Type 0 where
  pub cell : cell.Stands r.replayer.cell s.cell
  pub clerk : r.clerk ≡ s.clerk

-- an answer is the reply to a line, and the replayer goes on after it
pub record IsAnswer (a : Answer) (r : ClerkReplayer) (number : ℕ) (s : Clerked) (l : ScriptLine) : Type 0 where
  pub answer : (reply_by_clerk number s l).0 ≡ Some a
  pub stands : Stands r (clerked_after number s l)

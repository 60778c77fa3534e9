-- By the theorem over whole runs.
use Rattle.cell_model.specs.Cells.{Cell}
use Rattle.cell_model.specs.Completions.{AnswersHold}
use Rattle.cell_model.proofs.Standing.{on_reached}
use Rattle.cell_model.proofs.Completing.{answers_lem}
use Rattle.cell_model.proofs.laws.answers.Goals as goal

pub returns : goal.returns
returns c = λ g d r. on_reached (λ (z : Cell). AnswersHold z d) (λ commands. answers_lem commands d) g r

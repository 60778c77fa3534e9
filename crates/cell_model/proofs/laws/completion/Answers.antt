-- By the theorem over whole runs.
use Rattle.cell_model.proofs.Stamping.{raises_lem}
use Rattle.cell_model.proofs.laws.completion.Goals as goal

pub returns : goal.returns
returns c = λ commands d. raises_lem commands d

-- By the theorem over whole runs.
use Rattle.cell_model.proofs.Agreeing.{converges_lem}
use Rattle.cell_model.proofs.laws.convergence.Goals as goal

pub returns : goal.returns
returns c = λ commands. converges_lem commands

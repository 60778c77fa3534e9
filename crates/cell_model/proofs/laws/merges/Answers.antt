-- By the theorem over whole runs.
use Rattle.cell_model.proofs.Merging.{merges_lem}
use Rattle.cell_model.proofs.laws.merges.Goals as goal

pub returns : goal.returns
returns c = λ commands. merges_lem commands

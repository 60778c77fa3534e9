-- By the theorem over whole runs.
use Rattle.cell_model.proofs.Standing.{reached_lem}
use Rattle.cell_model.proofs.laws.reached.Goals as goal

pub returns : goal.returns
returns c = reached_lem

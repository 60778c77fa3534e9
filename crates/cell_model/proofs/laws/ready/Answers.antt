-- By the theorem over whole runs.
use Rattle.cell_model.proofs.Agreed.{ready_lem}
use Rattle.cell_model.proofs.laws.ready.Goals as goal

pub returns : goal.returns
returns c = λ commands d. ready_lem commands d

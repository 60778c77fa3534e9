-- By the theorem over whole runs.
use Rattle.cell_model.proofs.NeverComes.{nevers_lem}
use Rattle.cell_model.proofs.laws.absences.Goals as goal

pub returns : goal.returns
returns c = λ commands. nevers_lem commands

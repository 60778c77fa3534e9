-- By the theorem over whole runs.
use Rattle.fair_runs.proofs.Converging.{cells_converge_lem}
use Rattle.fair_runs.proofs.laws.cells_converge.Goals as goal

pub returns : goal.returns
returns c = λ early late. cells_converge_lem early late

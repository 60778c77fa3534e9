-- By the theorem over whole runs.
use Rattle.fair_runs.proofs.Endings.{skulks_end_lem}
use Rattle.fair_runs.proofs.laws.skulks_end.Goals as goal

pub returns : goal.returns
returns c = λ early late. skulks_end_lem early late

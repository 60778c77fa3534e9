-- By the theorem over whole runs.
use Rattle.fair_runs.proofs.Exact.{skulks_end_if_heard_lem}
use Rattle.fair_runs.proofs.laws.skulks_end_if_heard.Goals as goal

pub returns : goal.returns
returns c = λ early late. skulks_end_if_heard_lem early late

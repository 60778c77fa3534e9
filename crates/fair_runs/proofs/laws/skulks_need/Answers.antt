-- By the theorem over whole runs.
use Rattle.fair_runs.proofs.Needs.{skulk_needs_lem}
use Rattle.fair_runs.proofs.laws.skulks_need.Goals as goal

pub returns : goal.returns
returns c = λ commands command. skulk_needs_lem commands command

use Rattle.house_runs.proofs.Segments.{folders_tell}
use Rattle.house_runs.proofs.laws.running_houses_are_honest.Goals as goal

pub returns : goal.returns
returns c = folders_tell

use Rattle.house_runs.proofs.Readings.{one_house}
use Rattle.house_runs.proofs.laws.records_tell_one_tale.Goals as goal

pub returns : goal.returns
returns c = one_house

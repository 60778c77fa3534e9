use Rattle.cell_replay.proofs.RoundTrip.{towers_again}
use Rattle.cell_replay.proofs.laws.towers_come_back.Goals as goal

pub returns : goal.returns
returns c = towers_again

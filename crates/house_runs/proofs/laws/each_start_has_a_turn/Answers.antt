use Rattle.house_runs.proofs.LastTurns.{start_has_turn}
use Rattle.house_runs.proofs.laws.each_start_has_a_turn.Goals as goal

pub returns : goal.returns
returns c = start_has_turn

use Rattle.house_turns.proofs.LastTurns.{turn_after}
use Rattle.house_turns.proofs.laws.each_house_has_a_turn.Goals as goal

pub returns : goal.returns
returns c = turn_after

use Rattle.house_turns.proofs.LastTurns.{last_redone}
use Rattle.house_turns.proofs.Resumptions.{last_of_segment, last_of_start, last_opened}
use Rattle.house_turns.proofs.laws.the_last_turn_is_kept.Goals as goal

pub returns : goal.returns
returns c = record { reply = last_redone; start = last_of_start; segment = last_of_segment; opened = last_opened }

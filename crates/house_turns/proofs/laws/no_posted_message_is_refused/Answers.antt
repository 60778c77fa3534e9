use Rattle.house_turns.proofs.PostedMessages.{not_refused_early}
use Rattle.house_turns.proofs.laws.no_posted_message_is_refused.Goals as goal

pub returns : goal.returns
returns c = not_refused_early

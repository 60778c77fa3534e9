use Rattle.clerk_turns.proofs.Waiting.{all_wait, begun_or_said, none_wait, under_way_or_said}
use Rattle.clerk_turns.proofs.laws.commands_wait_or_are_answered.Goals as goal

pub returns-clause-begins : goal.returns-clause-begins
returns-clause-begins c = none_wait

pub returns-clause-goes_on : goal.returns-clause-goes_on
returns-clause-goes_on c = all_wait

pub returns-clause-starts : goal.returns-clause-starts
returns-clause-starts c = begun_or_said

pub returns-clause-ends : goal.returns-clause-ends
returns-clause-ends c = under_way_or_said

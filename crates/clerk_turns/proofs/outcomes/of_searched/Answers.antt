use Rattle.clerk_turns.proofs.outcomes.of_searched.Goals as goal

pub returns-in-Closed : goal.returns-in-Closed
returns-in-Closed c = λ h cmd is asks rootless. rw c.in-Closed.is at is

pub returns-in-LacksRoot : goal.returns-in-LacksRoot
returns-in-LacksRoot c = λ h cmd is asks rootless. rw c.in-LacksRoot.is at rootless

pub returns-in-Lacks : goal.returns-in-Lacks
returns-in-Lacks c = λ h cmd is asks rootless. rw c.in-Lacks.is at asks

use Rattle.clerk_turns.proofs.outcomes.plainly.Goals as goal

pub returns-in-Closed-clause-done : goal.returns-in-Closed-clause-done
returns-in-Closed-clause-done c = λ h cmd is. rw c.in-Closed.is at is

pub returns-in-Lacks-clause-asks : goal.returns-in-Lacks-clause-asks
returns-in-Lacks-clause-asks c = λ h cmd asks. rw c.in-Lacks.is at asks

pub returns-in-LacksRoot-clause-root : goal.returns-in-LacksRoot-clause-root
returns-in-LacksRoot-clause-root c = λ h rootless. rw c.in-LacksRoot.is at rootless

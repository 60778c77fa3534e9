use Rattle.clerk_turns.proofs.clerk.Clerk.take.Goals as goal

pub returns-in-Do : goal.returns-in-Do
returns-in-Do c = rw c.in-Do.is c.begin.ensures

pub returns-in-Hear : goal.returns-in-Hear
returns-in-Hear c = rw c.in-Hear.is c.hear.ensures

pub returns-in-Down : goal.returns-in-Down
returns-in-Down c = rw c.in-Down.is c.down.ensures

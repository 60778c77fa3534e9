use Rattle.clerk_turns.proofs.clerk.Clerk.plan_again.Goals as goal

pub returns : goal.returns
returns c = rw c.again.ensures at c.try_again.ensures

use Rattle.clerk_turns.proofs.clerk.Clerk.keep.Goals as goal

pub returns : goal.returns
returns c = (c.nothing.ensures, c.in_ok-join.ensures)

use Rattle.clerk_turns.proofs.clerk.Clerk.ask.Goals as goal

pub returns : goal.returns
returns c = (_, c.in_ok-text.ensures, c.in_ok-join.ensures)

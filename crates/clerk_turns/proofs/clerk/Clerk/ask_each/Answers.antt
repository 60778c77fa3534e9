use Rattle.clerk_turns.proofs.clerk.Clerk.ask_each.Goals as goal

pub returns : goal.returns
returns c = (_, rw (c.deref.ensures.value, c.in_ok-houses.ensures) at c.in_ok-text.ensures, c.in_ok-join.ensures)

use Rattle.clerk_turns.proofs.clerk.Clerk.answered.Goals as goal

pub returns-in-Show : goal.returns-in-Show
returns-in-Show c = rw c.in-Show.is (rw (c.answer_to.ensures, c.told.ensures) at c.take_told.ensures)

pub returns-in_ok-list-in-Root : goal.returns-in_ok-list-in-Root
returns-in_ok-list-in-Root c = rw c.in-Root.is (rw c.in_ok-list-in-Root.ensures at c.root_told.ensures)

use Rattle.clerk_turns.proofs.clerk.Clerk.step_told.Goals as goal

pub returns : goal.returns
returns c = rw (c.fate_of-fate.ensures, c.is_update.ensures) at c.step.ensures

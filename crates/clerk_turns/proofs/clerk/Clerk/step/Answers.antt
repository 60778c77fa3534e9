use Rattle.resolver.proofs.PassLaws.{if_ok}
use Rattle.std.proofs.Common.{refl}
use Rattle.clerk_turns.proofs.clerk.Clerk.step.Goals as goal

pub returns-in-Done : goal.returns-in-Done
returns-in-Done c = rw c.in-Done.is (if_ok c.say_line.result (λ t is. (is, refl)) c.say_line.ensures)

pub returns-in-Refused : goal.returns-in-Refused
returns-in-Refused c = rw c.in-Refused.is (if_ok c.say_last.result (λ t is. (is, refl)) c.say_last.ensures)

pub returns-in-Spent : goal.returns-in-Spent
returns-in-Spent c = rw c.in-Spent.is (if_ok c.say_spent.result (λ t is. (is, refl)) c.say_spent.ensures)

pub returns-in-Again : goal.returns-in-Again
returns-in-Again c = rw c.in-Again.is (rw c.refusal_in.ensures at c.plan_again.ensures)

pub returns-in-Next : goal.returns-in-Next
returns-in-Next c = rw c.in-Next.is (rw c.one_line_on.ensures at c.send_next.ensures)

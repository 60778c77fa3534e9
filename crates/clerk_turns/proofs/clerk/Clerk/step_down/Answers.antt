use Rattle.std.proofs.Common.{refl, sym, ◌∙◌}
use Rattle.resolver.proofs.PassLaws.{if_ok}
use Rattle.clerk_turns.proofs.Goings.{cases_false, cases_true}
use Rattle.clerk_turns.proofs.clerk.Clerk.step_down.Goals as goal

pub returns-then-may_repeat : goal.returns-then-may_repeat
returns-then-may_repeat c =
    if_ok c.plan_again.result (λ t its. cases_true _ _ _ (sym c.may_repeat-may_repeat.ensures ∙ c.if-may_repeat.true) its) (rw c.with_doubt-job.ensures at c.plan_again.ensures)

pub returns-else-may_repeat : goal.returns-else-may_repeat
returns-else-may_repeat c =
    if_ok c.say_last.result (λ t is. cases_false _ _ _ (sym c.may_repeat-may_repeat.ensures ∙ c.if-may_repeat.false) (is, refl)) (rw c.with_doubt-job.ensures at c.say_last.ensures)

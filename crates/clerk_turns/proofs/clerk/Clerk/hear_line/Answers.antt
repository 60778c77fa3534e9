use Rattle.std.proofs.Common.{sym, ◌∙◌}
use Rattle.resolver.proofs.PassLaws.{if_ok}
use Rattle.clerk_turns.proofs.Goings.{cases_false, cases_true}
use Rattle.clerk_turns.proofs.clerk.Clerk.hear_line.Goals as goal

pub returns-then-is_last : goal.returns-then-is_last
returns-then-is_last c = if_ok c.answered.result (λ t its. cases_true _ _ _ (sym c.is_last.ensures ∙ c.if-is_last.true) its) c.answered.ensures

pub returns-else-is_last : goal.returns-else-is_last
returns-else-is_last c = if_ok c.hear_more.result (λ t its. cases_false _ _ _ (sym c.is_last.ensures ∙ c.if-is_last.false) its) c.hear_more.ensures

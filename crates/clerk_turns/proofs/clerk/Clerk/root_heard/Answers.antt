use Rattle.std.proofs.Common.{sym, ◌∙◌}
use Rattle.resolver.proofs.PassLaws.{if_ok}
use Rattle.clerk_turns.proofs.Goings.{cases_false, cases_true}
use Rattle.clerk_turns.proofs.clerk.Clerk.root_heard.Goals as goal

pub returns-then-is_high : goal.returns-then-is_high
returns-then-is_high c = if_ok c.wait.result (λ t its. cases_true _ _ _ (sym c.is_high.ensures ∙ c.if-is_high.true) its) c.wait.ensures

pub returns-else-is_high : goal.returns-else-is_high
returns-else-is_high c = if_ok c.ask_on.result (λ t its. cases_false _ _ _ (sym c.is_high.ensures ∙ c.if-is_high.false) its) c.ask_on.ensures

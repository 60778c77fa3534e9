use Rattle.std.proofs.Common.{sym, ◌∙◌}
use Rattle.resolver.proofs.PassLaws.{if_ok}
use Rattle.clerk_turns.proofs.Goings.{cases_false, cases_true}
use Rattle.clerk_turns.proofs.clerk.Clerk.ask_on.Goals as goal

pub returns-then-is_some : goal.returns-then-is_some
returns-then-is_some c = if_ok c.settle.result (λ t its. cases_true _ _ _ (sym c.is_some.ensures ∙ c.if-is_some.true) its) c.settle.ensures

pub returns-else-is_some : goal.returns-else-is_some
returns-else-is_some c = if_ok c.ask_at.result (λ t its. cases_false _ _ _ (sym c.is_some.ensures ∙ c.if-is_some.false) its) (rw c.next_place.ensures at c.ask_at.ensures)

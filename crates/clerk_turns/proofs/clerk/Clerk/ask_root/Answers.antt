use Rattle.std.proofs.Common.{sym, ◌∙◌}
use Rattle.resolver.proofs.PassLaws.{if_ok}
use Rattle.clerk_turns.proofs.Goings.{as_trusted, first_asked}
use Rattle.clerk_turns.proofs.clerk.Clerk.ask_root.Goals as goal

pub returns-then-is_high : goal.returns-then-is_high
returns-then-is_high c = if_ok c.ask_all.result (λ t its. as_trusted _ _ _ _ _ _ _ (sym c.is_high.ensures ∙ c.if-is_high.true) its) c.ask_all.ensures

pub returns-else-is_high : goal.returns-else-is_high
returns-else-is_high c =
    if_ok c.ask_at.result (λ t its. as_trusted _ _ _ _ _ _ _ (sym c.is_high.ensures ∙ c.if-is_high.false) (first_asked _ _ _ _ _ its)) c.ask_at.ensures

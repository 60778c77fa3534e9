use Rattle.std.proofs.Common.{sym, ◌∙◌}
use Rattle.resolver.proofs.PassLaws.{if_ok}
use Rattle.clerk_turns.proofs.Goings.{all_asked, none_asked}
use Rattle.clerk_turns.proofs.clerk.Clerk.ask_all.Goals as goal

pub returns-in-Some : goal.returns-in-Some
returns-in-Some c = if_ok c.ask_each.result (λ t its. all_asked _ _ _ _ _ _ (sym c.house_at.ensures ∙ c.in-Some.is) its) c.ask_each.ensures

pub returns-in-None : goal.returns-in-None
returns-in-None c = if_ok c.settle.result (λ t its. none_asked _ _ _ _ _ (sym c.house_at.ensures ∙ c.in-None.is) its) c.settle.ensures

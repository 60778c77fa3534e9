use Rattle.std.proofs.Common.{refl, sym, ◌∙◌}
use Rattle.resolver.proofs.PassLaws.{if_ok}
use Rattle.clerk_turns.proofs.Goings.{is_lacking, is_there}
use Rattle.clerk_turns.proofs.clerk.Clerk.begin.Goals as goal

pub returns-then-has_job : goal.returns-then-has_job
returns-then-has_job c = is_there _ _ _ (sym c.has_job.ensures ∙ c.if-has_job.true) (c.nothing.ensures, refl)

pub returns-else-has_job : goal.returns-else-has_job
returns-else-has_job c = if_ok c.begin_said.result (λ t its. is_lacking _ _ _ (sym c.has_job.ensures ∙ c.if-has_job.false) its) c.begin_said.ensures

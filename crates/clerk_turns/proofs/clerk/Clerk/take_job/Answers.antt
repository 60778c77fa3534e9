use Rattle.std.proofs.Common.{refl}
use Rattle.clerk_turns.proofs.Goings.{if_some}
use Rattle.clerk_turns.proofs.clerk.Clerk.take_job.Goals as goal

pub returns-clause-some : goal.returns-clause-some
returns-clause-some c =
    if_some c.take_job.result (λ x taken. record { jobs = c.take_job.new.jobs; taken = taken; after = refl }) c.take_job.ensures.some

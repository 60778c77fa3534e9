use Rattle.std.proofs.Common.{refl}
use Rattle.clerk_turns.proofs.clerk.Clerk.send.Goals as goal

pub returns : goal.returns
returns c = rw (c.with_plan.ensures c.args.updates refl refl) at c.send_next.ensures

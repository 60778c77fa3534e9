use Rattle.std.proofs.Common.{inl, inr}
use Rattle.resolver.proofs.PassLaws.{if_ok}
use Rattle.clerk_turns.proofs.clerk.Clerk.begin_plan.Goals as goal

pub returns : goal.returns
returns c = if_ok c.send.result (λ t sends. inr (inl (record { updates = c.args.updates; are = c.requires; sends = sends }))) c.send.ensures

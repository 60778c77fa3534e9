use Rattle.std.proofs.Common.{sym, subst}
use Rattle.std.specs.Prelude.{IsSome}
use Rattle.cds_clerk.specs.Heards.{heard_root}
use Rattle.clerk_turns.specs.declared.clerk.Job.{Job}
use Rattle.clerk_turns.proofs.Goings.{root_known}
use Rattle.clerk_turns.proofs.clerk.Clerk.settle.Goals as goal

pub go_rooted-requires : goal.go_rooted-requires
go_rooted-requires c = subst (λ (j : Job). IsSome (heard_root j.heard.root)) (sym c.with_root-job.ensures) (root_known c.args.job.latest)

use Rattle.std.proofs.Common.{subst}
use Rattle.resolver.proofs.PassLaws.{if_ok}
use Rattle.clerk_turns.specs.declared.clerk.Job.{Job}
use Rattle.clerk_turns.specs.Turns.{GoesIfAll}
use Rattle.clerk_turns.proofs.clerk.Clerk.go_with.Goals as goal

pub returns : goal.returns
returns c =
    if_ok c.go_if_all.result (λ t goes. subst (λ (j : Job). GoesIfAll c.args.self.now j t.items c.go_if_all.new.self) c.in_ok-job.ensures goes) c.go_if_all.ensures

use Rattle.std.proofs.Common.{subst, sym}
use Rattle.cds_clerk.proofs.InquiryLaws.{one_asked}
use Rattle.clerk_turns.specs.Answers.{AreWanted, Wants}
use Rattle.clerk_turns.proofs.outcomes.of_outcome.Goals as goal

pub returns-in-Said : goal.returns-in-Said
returns-in-Said c = λ h cmd none is unheard wants rootless. c.said.ensures h cmd none (rw c.in-Said.is at is)

pub returns-in-LacksRoot : goal.returns-in-LacksRoot
returns-in-LacksRoot c = λ h cmd none is unheard wants rootless. rw c.in-LacksRoot.is at rootless

pub returns-in_ok-alone-in-Lacks : goal.returns-in_ok-alone-in-Lacks
returns-in_ok-alone-in-Lacks c = λ h cmd none is unheard wants rootless.
    subst (AreWanted h cmd) (sym c.in_ok-alone-in-Lacks.ensures)
    (one_asked h (Wants h cmd) c.in-Lacks.lack (rw c.in-Lacks.is at unheard) (rw c.in-Lacks.is at wants))

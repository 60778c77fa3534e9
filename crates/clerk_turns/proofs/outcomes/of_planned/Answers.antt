use Rattle.std.proofs.Common.{subst, sym}
use Rattle.cds_clerk.proofs.InquiryLaws.{one_asked}
use Rattle.clerk_turns.specs.Answers.{AreWanted, Wants}
use Rattle.clerk_turns.proofs.Refusing.{refused_answer}
use Rattle.clerk_turns.proofs.outcomes.of_planned.Goals as goal

pub returns-in-Made : goal.returns-in-Made
returns-in-Made c = λ h cmd done unheard wants rootless none. rw c.in-Made.is at done

pub returns-in-Refused : goal.returns-in-Refused
returns-in-Refused c = λ h cmd done unheard wants rootless none.
    c.said.ensures h cmd none (refused_answer h cmd c.in-Refused.refusal (rw c.in-Refused.is at done))

pub returns-in-LacksRoot : goal.returns-in-LacksRoot
returns-in-LacksRoot c = λ h cmd done unheard wants rootless none. rw c.in-LacksRoot.is at rootless

pub returns-in_ok-alone-in-Lacks : goal.returns-in_ok-alone-in-Lacks
returns-in_ok-alone-in-Lacks c = λ h cmd done unheard wants rootless none.
    subst (AreWanted h cmd) (sym c.in_ok-alone-in-Lacks.ensures)
    (one_asked h (Wants h cmd) c.in-Lacks.lack (rw c.in-Lacks.is at unheard) (rw c.in-Lacks.is at wants))

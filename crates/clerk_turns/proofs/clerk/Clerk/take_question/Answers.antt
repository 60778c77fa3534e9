use Rattle.std.proofs.Common.{refl}
use Rattle.clerk_turns.proofs.Goings.{if_some}
use Rattle.clerk_turns.proofs.clerk.Clerk.take_question.Goals as goal

pub returns-clause-some : goal.returns-clause-some
returns-clause-some c =
    if_some c.take_question.result (λ x taken. record { questions = c.take_question.new.questions; taken = taken; after = refl }) c.take_question.ensures.some

use Rattle.resolver.proofs.PassLaws.{if_ok}
use Rattle.clerk_turns.proofs.Goings.{lacking, there}
use Rattle.clerk_turns.proofs.clerk.Clerk.down.Goals as goal

pub returns-in-Some : goal.returns-in-Some
returns-in-Some c =
    if_ok c.topic_down.result (λ t goes. there _ _ _ _ c.in-Some.ensures.some.taken.first (_, c.in-Some.question, c.in-Some.ensures.some, goes)) c.topic_down.ensures

pub returns-in-None : goal.returns-in-None
returns-in-None c = lacking _ _ _ c.in-None.ensures.none (c.nothing.ensures, c.in-None.ensures.stays)

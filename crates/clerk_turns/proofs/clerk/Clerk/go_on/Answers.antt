use Rattle.std.proofs.Common.{inl, inr}
use Rattle.resolver.proofs.PassLaws.{if_ok}
use Rattle.clerk_turns.proofs.clerk.Clerk.go_on.Goals as goal

pub end-requires-clause-answer : goal.end-requires-clause-answer
end-requires-clause-answer c = (rw c.in-Said.is at c.in_ok-answer.ensures).0

pub end-requires-clause-unreached : goal.end-requires-clause-unreached
end-requires-clause-unreached c = (rw c.in-Said.is at c.in_ok-answer.ensures).1

pub begin_plan-requires : goal.begin_plan-requires
begin_plan-requires c = rw c.in-Updates.is at c.in_ok-answer.ensures

pub ask_names-requires : goal.ask_names-requires
ask_names-requires c = rw c.in-Lacks.is at c.in_ok-answer.ensures

pub returns-in-Said : goal.returns-in-Said
returns-in-Said c = if_ok c.end.result (λ t goes. inl goes) c.end.ensures

pub returns-in-Updates : goal.returns-in-Updates
returns-in-Updates c = if_ok c.begin_plan.result (λ t goes. inl goes) c.begin_plan.ensures

pub returns-in-Lacks : goal.returns-in-Lacks
returns-in-Lacks c = if_ok c.ask_names.result (λ t goes. inl goes) c.ask_names.ensures

pub returns-in-LacksRoot : goal.returns-in-LacksRoot
returns-in-LacksRoot c =
    if_ok c.ask_root.result (λ t asks. inr (record { unheard = rw c.in-LacksRoot.is at c.in_ok-answer.ensures; asks = asks })) c.ask_root.ensures

use Rattle.clerk_turns.proofs.clerk.Clerk.go_rooted.Goals as goal

pub end-requires-clause-answer : goal.end-requires-clause-answer
end-requires-clause-answer c = (rw c.in-Said.is at c.in_ok-answer.ensures).0

pub end-requires-clause-unreached : goal.end-requires-clause-unreached
end-requires-clause-unreached c = (rw c.in-Said.is at c.in_ok-answer.ensures).1

pub begin_plan-requires : goal.begin_plan-requires
begin_plan-requires c = rw c.in-Updates.is at c.in_ok-answer.ensures

pub ask_names-requires : goal.ask_names-requires
ask_names-requires c = rw c.in-Lacks.is at c.in_ok-answer.ensures

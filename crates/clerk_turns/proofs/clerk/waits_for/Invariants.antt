use Rattle.std.proofs.Common.{◌≡◌, drop}
use Rattle.clerk_turns.specs.Clerks.{waits_for}
use Rattle.clerk_turns.proofs.clerk.waits_for.Given as goal

abbrev pub invariant-loop-question : goal.invariant-loop-question
invariant-loop-question l = waits_for l.job l.questions ≡ waits_for l.job (drop l.question-index l.questions)

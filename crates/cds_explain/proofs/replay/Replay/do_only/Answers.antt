use Rattle.std.proofs.Common.{subst}
use Rattle.script_answers.specs.declared.answer.Answer.{Answer}
use Rattle.cds_cell.specs.Scripted.{step_of}
use Rattle.cds_explain.specs.PrivateReplays.{HasStepped}
use Rattle.cds_explain.proofs.replay.Replay.do_only.Goals as goal

pub returns-in-Done-clause-done : goal.returns-in-Done-clause-done
returns-in-Done-clause-done c = λ cs has.
    subst (λ (a : Answer). HasStepped cs (step_of c.args.command) a c.args.self.now c.step.new.self) c.in-Done.is (c.in_ok-answer.ensures.done cs has)

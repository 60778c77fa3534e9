use Rattle.std.proofs.Common.{List, ℕ, subst, sym}
use Rattle.cell_model.specs.Commands as model
use Rattle.cell_model.specs.Steps.{outcome, replay}
use Rattle.cell_script.specs.declared.command.Command.{Command}
use Rattle.cell_script.specs.declared.command.Command.TheVariants as command
use Rattle.script_answers.specs.declared.answer.Answer.TheVariants as answer
use Rattle.cds_cell.specs.Scripted.{step_of}
use Rattle.entry_lines.specs.declared.command.Said.{Said}
use Rattle.entry_lines.specs.SaidLines.{SaysCommand}
use Rattle.cds_explain.specs.PrivateReplays.{HasStepped}
use Rattle.cds_explain.proofs.ReplayLemmas.{said_as, said_has, start_done}
use Rattle.cds_explain.proofs.replay.Replay.start.Goals as goal

pub returns-clause-done : goal.returns-clause-done
returns-clause-done c = λ cs has.
    let old = c.args.self.now in
    let mid = c.do_only.new.self in
    let h = c.args.house in
    let o = c.in_ok-said.field-0 in
    let said = c.in-Some.said in
    let there = c.in-Some.is in
    let known = c.in_ok-said.ensures in
    let stepped =
    said_as (λ (d : Command). HasStepped cs (step_of d) answer.Done old mid) o said (command.Start h) there known.is (c.in_ok-do_only.ensures.done cs has)
    in
    let says =
    said_as (λ (d : Command). SaysCommand said.line.items d) o said (command.Start h) there known.is
    (said_has (λ (s : Said). SaysCommand s.line.items s.command) o said there known.says)
    in
    start_done old mid c.push.new.self cs h c.deref.result.now c.args.image.now has stepped c.in_ok-push.ensures.text c.push.ensures.lines
    c.push.ensures.replayer (subst (λ (octets : List ℕ). SaysCommand octets (command.Start h)) (sym c.deref.ensures.value) says)
    (c.in_ok-compare_image.ensures.same (outcome (replay cs) (model.Start h.0)).cell stepped.step.stands)

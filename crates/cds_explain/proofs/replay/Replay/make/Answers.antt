use Rattle.std.specs.Prelude.{OnOk}
use Rattle.cell_script.specs.declared.command.Command.{Command}
use Rattle.cell_script.specs.declared.command.Command.TheVariants as command
use Rattle.cds_cell.specs.Scripted.{step_of}
use Rattle.cds_explain.specs.PrivateReplays.{DoesQuietly}
use Rattle.cds_explain.proofs.ReplayLemmas.{said_as}
use Rattle.cds_explain.proofs.replay.Replay.make.Goals as goal

pub returns-clause-done : goal.returns-clause-done
returns-clause-done c = λ cs has.
    said_as (λ (d : Command). OnOk c.do_quietly.result (DoesQuietly cs (step_of d) c.do_quietly.new.self)) c.in_ok-said.field-0 c.in-Some.said
    (command.House c.args.house c.args.node) c.in-Some.is c.in_ok-said.ensures.is (c.do_quietly.ensures.done cs has)

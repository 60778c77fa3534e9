use Rattle.directory.specs.Updates.{change_of}
use Rattle.cds_cell.proofs.ActSteps.{accept_refused, accept_taken}
use Rattle.cds_cell.proofs.cell.Cell.accept_placed.Goals as goal

pub returns-in-Ok-clause-step : goal.returns-in-Ok-clause-step
returns-in-Ok-clause-step c g x s place none =
    accept_taken c.args.self.now c.accept_at.new.self g x c.args.dir.0 (change_of c.args.update.now) s none c.args.at c.new-serials.result
    c.accept_at.new.serials c.in-Ok.stamp c.in_ok-stamp.field-0 place c.new-serials.ensures c.in-Ok.is (c.in_ok-stamp.ensures.acts (g.house x))

pub returns-in-Err-clause-step : goal.returns-in-Err-clause-step
returns-in-Err-clause-step c g x s place none =
    accept_refused c.args.self.now c.accept_at.new.self g x c.args.dir.0 (change_of c.args.update.now) s none c.args.at c.new-serials.result
    c.accept_at.new.serials c.in-Err.refusal c.refusal_in_script.result c.in_ok-stamp.field-0 place c.new-serials.ensures c.in-Err.is
    c.refusal_in_script.ensures (c.in_ok-stamp.ensures.acts (g.house x))

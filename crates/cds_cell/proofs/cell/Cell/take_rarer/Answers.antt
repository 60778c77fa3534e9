use Rattle.std.proofs.Common.{refl}
use Rattle.std.specs.Prelude.{None}
use Rattle.cell_model.specs.Steps.{first_refusal, refusals_of}
use Rattle.cds_cell.proofs.Outcomes.{acted_step, unrefused}
use Rattle.cds_cell.specs.Scripted.{step_of}
use Rattle.cds_cell.proofs.cell.Cell.take_rarer.Goals as goal

pub returns-in-Ok-clause-step : goal.returns-in-Ok-clause-step
returns-in-Ok-clause-step c g s =
    let k = step_of c.args.command in
    let none = unrefused (first_refusal (refusals_of g k)) None (c.in-Ok.ensures g s) refl in
    acted_step c.act.new.self g k c.act.result s.reached none (c.act.ensures.step g s none)

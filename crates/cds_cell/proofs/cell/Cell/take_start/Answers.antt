use Rattle.std.proofs.Common.{refl}
use Rattle.std.specs.Prelude.{None}
use Rattle.cell_model.specs.Commands as command
use Rattle.cell_model.specs.Steps.{first_refusal, refusals_of}
use Rattle.cds_cell.proofs.Outcomes.{acted_step, unrefused}
use Rattle.cds_cell.proofs.cell.Cell.take_start.Goals as goal

pub returns-in-Ok-clause-step : goal.returns-in-Ok-clause-step
returns-in-Ok-clause-step c g s is =
    let k = command.Start c.args.house.0 in
    let none = unrefused (first_refusal (refusals_of g k)) None (c.in-Ok.ensures g s) refl in
    acted_step c.begin_from.new.self g k c.begin_from.result s.reached none (c.begin_from.ensures.step g s is none)

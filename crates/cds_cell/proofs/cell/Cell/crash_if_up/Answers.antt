use Rattle.std.proofs.Common.{refl}
use Rattle.std.specs.Prelude.{None}
use Rattle.cell_model.specs.Commands as command
use Rattle.cell_model.specs.Steps.{first_refusal, refusals_of}
use Rattle.cds_cell.proofs.Outcomes.{acted_stands, unrefused}
use Rattle.cds_cell.proofs.cell.Cell.crash_if_up.Goals as goal

pub returns-in-Ok-clause-crash : goal.returns-in-Ok-clause-crash
returns-in-Ok-clause-crash c g s =
    let k = command.Crash c.args.house.0 in
    let none = unrefused (first_refusal (refusals_of g k)) None (c.in-Ok.ensures g s) refl in
    acted_stands c.crash.new.self g k c.in_ok-crash-in-Ok.field-0 s.reached none (c.in_ok-crash-in-Ok.ensures.step g s none)

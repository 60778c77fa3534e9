use Rattle.std.proofs.Common.{refl}
use Rattle.std.specs.Prelude.{Ok}
use Rattle.cell_model.specs.Commands as command
use Rattle.cds_cell.proofs.Outcomes.{acted_step}
use Rattle.cds_cell.proofs.cell.Cell.take.Goals as goal

pub returns-in-Deliver-clause-step : goal.returns-in-Deliver-clause-step
returns-in-Deliver-clause-step c g s =
    rw c.in-Deliver.is
    (acted_step c.deliver.new.self g (command.Deliver c.in-Deliver.serial) c.deliver.result s.reached refl (c.deliver.ensures.step g s))

pub returns-in-Lose-clause-step : goal.returns-in-Lose-clause-step
returns-in-Lose-clause-step c g s =
    rw c.in-Lose.is
    (acted_step c.lose.new.self g (command.Lose c.in-Lose.serial) (Ok c.lose.result) s.reached refl (c.lose.ensures.step g s))

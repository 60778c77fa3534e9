-- By the theorem over whole runs.
use Rattle.cell_model.specs.Cells.{Cell}
use Rattle.cell_model.specs.Sets.{In}
use Rattle.cell_model.specs.Taking.{CanTake}
use Rattle.cell_model.proofs.Standing.{on_reached, can_take_lem}
use Rattle.cell_model.proofs.laws.taking.Goals as goal

pub returns : goal.returns
returns c = λ g m r. on_reached (λ (z : Cell). In m z.bag → CanTake (z.house m.receiver) m) (λ commands. can_take_lem commands m) g r

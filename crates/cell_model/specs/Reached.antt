-- Cells that some list of commands leads to.
use Rattle.std.specs.Prelude.{◌≡◌, List}
use Rattle.cell_model.specs.Cells.{Cell, empty_cell}
use Rattle.cell_model.specs.Commands.{Command}
use Rattle.cell_model.specs.Steps.{outcome, replay}

-- some list of commands leads to the cell
pub record IsReached (g : Cell) : Type 0 where
  pub commands : List Command
  pub leads : replay commands ≡ g

-- the empty cell is reached, and so is each cell after a command
pub record ReachedHolds : Type 0 where
  pub empty : IsReached empty_cell
  pub after : (g : Cell) (c : Command) → IsReached g → IsReached (outcome g c).cell

use Rattle.house_runs.proofs.Cells.{are_of_cell}
use Rattle.house_runs.proofs.laws.running_houses_are_cells.Goals as goal

pub returns : goal.returns
returns c = are_of_cell c.runs_are_cells.ensures.views c.runs_are_cells.ensures.done c.runs_are_cells.ensures.settled

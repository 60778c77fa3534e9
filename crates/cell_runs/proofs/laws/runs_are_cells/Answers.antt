use Rattle.cell_runs.specs.Orders.{commands_of}
use Rattle.cell_runs.proofs.Making.{none_refused, own_entries}
use Rattle.cell_runs.proofs.laws.runs_are_cells.Goals as goal

pub returns-clause-views : goal.returns-clause-views
returns-clause-views c houses logs line runs order = own_entries houses logs line runs order

pub returns-clause-done : goal.returns-clause-done
returns-clause-done c houses logs line runs order = none_refused houses logs line runs order

pub returns-clause-settled : goal.returns-clause-settled
returns-clause-settled c houses line = c.convergence.ensures (commands_of houses line)

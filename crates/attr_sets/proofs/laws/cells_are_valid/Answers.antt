use Rattle.attr_sets.specs.CellLawProofs.{cell_of-valid}
use Rattle.attr_sets.proofs.laws.cells_are_valid.Goals as goal

pub returns : goal.returns
returns c = cell_of-valid

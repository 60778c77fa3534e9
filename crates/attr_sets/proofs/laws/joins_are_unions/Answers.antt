use Rattle.attr_sets.specs.CellLawProofs.{join_cells-cell_of}
use Rattle.attr_sets.proofs.laws.joins_are_unions.Goals as goal

pub returns : goal.returns
returns c = join_cells-cell_of

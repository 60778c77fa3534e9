use Rattle.attr_sets.proofs.CellPurgeLaws.{knows_up_to, merged_cells}
use Rattle.attr_sets.proofs.laws.purged_cells_merge.Goals as goal

pub returns : goal.returns
returns c = λ t g h has. merged_cells t g h (knows_up_to t g h has)

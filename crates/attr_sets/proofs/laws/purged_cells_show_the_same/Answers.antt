use Rattle.attr_sets.proofs.PresentLaws.{cell_values-purged}
use Rattle.attr_sets.proofs.laws.purged_cells_show_the_same.Goals as goal

pub returns : goal.returns
returns c = cell_values-purged

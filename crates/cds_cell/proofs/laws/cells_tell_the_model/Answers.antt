use Rattle.cds_cell.proofs.Told.{told_is_reading}
use Rattle.cds_cell.proofs.laws.cells_tell_the_model.Goals as goal

pub returns : goal.returns
returns c = told_is_reading c.holdings.ensures.numbers c.replicas_show_histories.ensures

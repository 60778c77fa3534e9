use Rattle.cds_cell.proofs.ModelObjects.{reading_shows_only}
use Rattle.cds_cell.proofs.laws.cells_show_finitely_many_objects.Goals as goal

pub returns : goal.returns
returns c = reading_shows_only

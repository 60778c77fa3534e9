use Rattle.cds_cell.proofs.ImagesStay.{images_stay}
use Rattle.cds_cell.proofs.laws.images_stay.Goals as goal

pub returns : goal.returns
returns c g k x reached off = images_stay g k x reached off

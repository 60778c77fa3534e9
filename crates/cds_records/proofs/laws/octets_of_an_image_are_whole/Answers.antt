use Rattle.cds_records.proofs.WholeImages.{the_image_whole}
use Rattle.cds_records.proofs.laws.octets_of_an_image_are_whole.Goals as goal

pub returns : goal.returns
returns c = the_image_whole

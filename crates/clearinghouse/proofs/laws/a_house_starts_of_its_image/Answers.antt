use Rattle.clearinghouse.proofs.Starting.{image_starts}
use Rattle.clearinghouse.proofs.laws.a_house_starts_of_its_image.Goals as goal

pub returns : goal.returns
returns c = image_starts

use Rattle.cds_cell.proofs.RecordedLaws.{image_of_down, image_of_up}
use Rattle.cds_cell.proofs.laws.images_are_those_of_the_model.Goals as goal

pub returns-clause-up : goal.returns-clause-up
returns-clause-up c = λ cell g x home stands is. image_of_up cell g stands x home is

pub returns-clause-down : goal.returns-clause-down
returns-clause-down c = λ cell g x octets stands is. image_of_down cell g stands x octets is

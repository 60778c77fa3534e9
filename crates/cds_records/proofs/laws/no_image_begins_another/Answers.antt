use Rattle.cds_records.specs.Images.{either_image}
use Rattle.record_fields.proofs.LayoutLaws.{one_front}
use Rattle.cds_records.proofs.laws.no_image_begins_another.Goals as goal

pub returns : goal.returns
returns c = λ i other a b x y. one_front either_image i other a b x y

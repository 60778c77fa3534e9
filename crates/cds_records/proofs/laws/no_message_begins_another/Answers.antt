use Rattle.cds_records.specs.Records.{message}
use Rattle.record_fields.proofs.LayoutLaws.{one_front}
use Rattle.cds_records.proofs.laws.no_message_begins_another.Goals as goal

pub returns : goal.returns
returns c = λ m other a b x y. one_front message m other a b x y

use Rattle.record_fields.proofs.WritingLoops.{behind}
use Rattle.cds_records.proofs.encoding.put_copied.Goals as goal

pub returns-clause-octets : goal.returns-clause-octets
returns-clause-octets c = behind _ _ _ _ _ c.in_ok-put_stamp.ensures.octets c.in_ok-put_delta.ensures.octets

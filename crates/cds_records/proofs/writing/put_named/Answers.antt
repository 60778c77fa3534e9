use Rattle.record_fields.proofs.WritingLoops.{behind}
use Rattle.cds_records.proofs.writing.put_named.Goals as goal

pub returns-clause-octets : goal.returns-clause-octets
returns-clause-octets c = behind _ _ _ _ _ c.in_ok-put_simple_name.ensures.octets c.in_ok-put_entry.ensures.octets

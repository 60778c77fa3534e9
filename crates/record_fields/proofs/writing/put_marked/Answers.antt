use Rattle.record_fields.proofs.WritingLoops.{behind}
use Rattle.record_fields.proofs.writing.put_marked.Goals as goal

pub returns-clause-octets : goal.returns-clause-octets
returns-clause-octets c = behind _ _ _ _ _ c.in_ok-put_value.ensures.octets c.in_ok-put_mark.ensures.octets

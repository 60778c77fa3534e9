use Rattle.std.specs.Int.{w64, to_be_bytes}
use Rattle.record_fields.specs.FieldOctets.{optional_stamp_octets, name_octets, items_octets}
use Rattle.cds_records.specs.RecordOctets.{entry_octets}
use Rattle.record_fields.proofs.WritingLoops.{behind_3}
use Rattle.cds_records.proofs.writing.put_table.Goals as goal

pub returns-clause-octets : goal.returns-clause-octets
returns-clause-octets c =
    behind_3 c.args.out.now.items (optional_stamp_octets c.args.stamp.now) (to_be_bytes w64 c.args.count)
    (items_octets name_octets entry_octets c.args.list)
    c.in_ok-put_optional_stamp.ensures.octets c.in_ok-put_u64.ensures c.in_ok-put_entries.ensures.octets

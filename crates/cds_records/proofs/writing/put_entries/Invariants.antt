use Rattle.std.proofs.Common.{◌≡◌, None}
use Rattle.cds_stamps.specs.Names.{simple_name_fault}
use Rattle.record_fields.specs.FieldOctets.{name_octets}
use Rattle.cds_records.specs.RecordOctets.{entry_octets}
use Rattle.cds_records.specs.RecordRanges.{FitsEntry}
use Rattle.record_fields.proofs.WritingLoops.{Written}
use Rattle.cds_records.proofs.writing.put_entries.Given as goal

abbrev pub invariant-loop-name : goal.invariant-loop-name
invariant-loop-name l =
    Written name_octets entry_octets (λ n. simple_name_fault n ≡ None) FitsEntry l.fn.list l.name-iterator l.fn.out.items l.out.items

use Rattle.std.proofs.Common.{◌≡◌, ◌-◌, None, false}
use Rattle.record_fields.specs.LayoutReading.{read}
use Rattle.cds_records.specs.Records.{member_list}
use Rattle.cds_records.proofs.Listed.{behind}
use Rattle.cds_records.proofs.members.read_listed.Given as goal

abbrev pub invariant-loop-i : goal.invariant-loop-i
invariant-loop-i l = behind l.list.items (read (member_list l.secondary (l.count - l.i) l.before l.master) l.reader) ≡ read (member_list l.secondary l.count None false) l.fn.reader

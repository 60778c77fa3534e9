use Rattle.std.proofs.Common.{◌≡◌, ◌-◌, None}
use Rattle.std.specs.Option.{option_map}
use Rattle.record_fields.specs.LayoutReading.{read}
use Rattle.record_fields.specs.Fields.{simple_name}
use Rattle.cds_records.specs.Records.{entry}
use Rattle.record_fields.specs.ListLayouts.{ascending_items}
use Rattle.record_fields.proofs.ListLoops.{behind}
use Rattle.cds_records.proofs.tables.read_entries.Given as goal

abbrev pub invariant-loop : goal.invariant-loop
invariant-loop l =
    behind l.entries.items (read (ascending_items simple_name (entry l.above) (l.count - l.counter) (option_map (λ b. b.now) l.before)) l.reader) ≡ read
    (ascending_items simple_name (entry l.above) l.count None) l.fn.reader

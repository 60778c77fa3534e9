use Rattle.std.proofs.Common.{◌≡◌}
use Rattle.std.specs.Option.{option_map}
use Rattle.cds_stamps.specs.Octets.{octets_cmp}
use Rattle.record_fields.specs.LayoutReading.{read}
use Rattle.record_fields.specs.Fields.{attr_name}
use Rattle.record_fields.specs.ListLayouts.{cell, map_of}
use Rattle.record_fields.proofs.MapLoops.{to_come}
use Rattle.cds_records.proofs.tables.read_attrs.Given as goal

abbrev pub invariant-loop : goal.invariant-loop
invariant-loop l =
    to_come attr_name (cell l.above) l.attrs l.count l.counter (option_map (λ b. b.now) l.before) l.reader ≡ read
    (map_of {R = octets_cmp} attr_name (cell l.above) l.count) l.fn.reader

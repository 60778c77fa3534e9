use Rattle.std.proofs.Common.{◌≡◌}
use Rattle.std.specs.Option.{option_map}
use Rattle.cds_stamps.specs.Octets.{octets_cmp}
use Rattle.record_fields.specs.LayoutReading.{read}
use Rattle.record_fields.specs.Fields.{value}
use Rattle.record_fields.specs.ListLayouts.{mark, map_of}
use Rattle.record_fields.proofs.MapLoops.{to_come}
use Rattle.record_fields.proofs.fields.Reader.marks.Given as goal

abbrev pub invariant-loop : goal.invariant-loop
invariant-loop l =
    to_come value (mark l.above l.cleared) l.marks l.count l.counter (option_map (λ b. b.now) l.before) l.self ≡ read
    (map_of {R = octets_cmp} value (mark l.above l.cleared) l.count) l.fn.self

use Rattle.std.proofs.Common.{◌≡◌}
use Rattle.record_fields.specs.LayoutReading.{read}
use Rattle.record_fields.specs.ListLayouts.{map_of}
use Rattle.cds_messages.specs.Dirs.{dir_cmp}
use Rattle.cds_records.specs.Images.{dir_number, dir_state}
use Rattle.record_fields.proofs.MapLoops.{to_come}
use Rattle.cds_records.proofs.images.read_dirs.Given as goal

abbrev pub invariant-loop : goal.invariant-loop
invariant-loop l =
    to_come dir_number (dir_state l.format) l.dirs l.count l.counter l.before l.reader ≡ read
    (map_of {R = dir_cmp} dir_number (dir_state l.format) l.count) l.fn.reader

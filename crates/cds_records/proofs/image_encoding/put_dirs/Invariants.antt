use Rattle.std.proofs.Common.{◌<◌, ◌^◌}
use Rattle.std.specs.FinMap.{entries}
use Rattle.cds_stamps.specs.declared.numbers.DirId.{DirId}
use Rattle.cds_records.specs.RecordOctets.{dir_octets, kept_octets}
use Rattle.cds_records.specs.RecordRanges.{FitsDir}
use Rattle.record_fields.proofs.WritingLoops.{Written}
use Rattle.cds_records.proofs.image_encoding.put_dirs.Given as goal

abbrev pub invariant-loop-dir : goal.invariant-loop-dir
invariant-loop-dir l = Written dir_octets kept_octets (λ (d : DirId). d.0 < 2 ^ 32) FitsDir (entries l.dirs) l.dir-iterator l.fn.out.items l.out.items

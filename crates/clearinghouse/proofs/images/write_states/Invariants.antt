use Rattle.std.proofs.Common.{◌<◌, ◌^◌}
use Rattle.std.specs.FinMap.{entries}
use Rattle.cds_stamps.specs.declared.numbers.DirId.{DirId}
use Rattle.cds_records.specs.RecordOctets.{dir_octets, kept_octets}
use Rattle.cds_records.specs.RecordRanges.{FitsDir}
use Rattle.record_fields.proofs.WritingLoops.{Written}
use Rattle.clearinghouse.specs.HouseImages.{kept_of}
use Rattle.clearinghouse.proofs.images.write_states.Given as goal

-- the directories before this one are written, and fit
abbrev pub invariant-loop-dir : goal.invariant-loop-dir
invariant-loop-dir l =
    Written dir_octets (λ s. kept_octets (kept_of s)) (λ (d : DirId). d.0 < 2 ^ 32) (λ s. FitsDir (kept_of s))
    (entries l.states) l.dir-iterator l.fn.image l.image

-- Words of private contracts: the errors of one of two images, and the second of them.
use Rattle.std.specs.Prelude.{ℕ, List, Result}
use Rattle.std.specs.Result.{result_map_both}
use Rattle.cds_stamps.specs.declared.alloc_or.AllocOr.{AllocOr}
use Rattle.cds_stamps.specs.declared.alloc_or.AllocOr.TheVariants.{Fault, OutOfMemory}
use Rattle.record_fields.specs.declared.fault.RecordFault.{RecordFault}
use Rattle.cds_messages.specs.declared.image.Image.{Image}
use Rattle.cds_records.specs.Migration.{whole_image}
use Rattle.image_audit.specs.declared.pair.PairFault.{PairFault}
use Rattle.image_audit.specs.Pairs.{fault_in}

-- the error of one of them
abbrev pub error_in : ℕ → AllocOr RecordFault → AllocOr PairFault
error_in image (Fault fault) = Fault (fault_in image fault)
error_in image OutOfMemory = OutOfMemory

-- the second image that the octets are, or its fault
abbrev pub second_of : List ℕ → Result Image PairFault
second_of octets = result_map_both (λ second. second) (fault_in 2) (whole_image octets)

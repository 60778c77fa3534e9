-- What an audit tells of octets that are to be two images, one after the other.
use Rattle.std.specs.Prelude.{ℕ, List, drop, Result, Ok, Err}
use Rattle.std.specs.Result.{result_map_both}
use Rattle.record_fields.specs.declared.fault.RecordFault.{RecordFault}
use Rattle.record_fields.specs.Decoding.{decode_by}
use Rattle.cds_stamps.specs.declared.numbers.DirId.{DirId}
use Rattle.cds_messages.specs.declared.image.Image.{Image}
use Rattle.cds_records.specs.Images.{either_image}
use Rattle.cds_records.specs.Migration.{whole_image}
use Rattle.image_audit.specs.declared.pair.PairFault.{PairFault}
use Rattle.image_audit.specs.declared.verdict.Verdict.{Verdict}
use Rattle.image_audit.specs.Verdicts.{verdict}

-- the fault of one of two images
abbrev pub fault_in : ℕ → RecordFault → PairFault
fault_in image fault = record { image = image; fault = fault }

-- after a first image of so many octets the others are the second
abbrev pub then_second : List ℕ → Result (Image × ℕ) RecordFault → Result (Image × Image) PairFault
then_second octets (Ok (first, size)) = result_map_both (λ second. (first, second)) (fault_in 2) (whole_image (drop size octets))
then_second octets (Err fault) = Err (fault_in 1 fault)

-- the two images of either format that the octets are, or the first fault of the first of them that
-- has one
abbrev pub pair_of : List ℕ → Result (Image × Image) PairFault
pair_of octets = then_second octets (decode_by either_image octets)

-- what an audit of a directory in them tells
abbrev pub audit_verdict : List ℕ → DirId → Result Verdict PairFault
audit_verdict octets dir = result_map_both (λ (p : Image × Image). verdict p.0 p.1 dir) (λ fault. fault) (pair_of octets)

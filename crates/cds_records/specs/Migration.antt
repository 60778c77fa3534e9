-- Octets that are to be one image of either format, and the same image in format 2.
use Rattle.std.specs.Prelude.{ℕ, ◌+◌, ◌==◌, if◌then◌else◌, List, length, Result, Ok, Err}
use Rattle.std.specs.Result.{result_map_both}
use Rattle.record_fields.specs.declared.fault.RecordFault.{RecordFault}
use Rattle.record_fields.specs.declared.fault.Rule.TheVariants.{Trailing}
use Rattle.record_fields.specs.Decoding.{decode_by}
use Rattle.cds_messages.specs.declared.image.Image.{Image}
use Rattle.cds_records.specs.Images.{either_image}
use Rattle.cds_records.specs.RecordOctets.{image_octets}

-- what is decoded of octets if it is the whole of them; that octets follow it is the last fault
abbrev pub whole_of : {A : Type 0} → List ℕ → Result (A × ℕ) RecordFault → Result A RecordFault
whole_of octets (Err fault) = Err fault
whole_of octets (Ok (value, size)) = if size == length octets then Ok value else Err (record { rule = Trailing; place = size + 1 })

-- the image of either format that the octets are, or their first fault
abbrev pub whole_image : List ℕ → Result Image RecordFault
whole_image octets = whole_of octets (decode_by either_image octets)

-- the octets of that image in format 2, or the first fault
abbrev pub migrated_image : List ℕ → Result (List ℕ) RecordFault
migrated_image octets = result_map_both image_octets (λ fault. fault) (whole_image octets)

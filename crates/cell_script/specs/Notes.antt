-- The annotations of profile elements (own, after C706, profile elements).
use Rattle.std.specs.Prelude.{ℕ, Bool, nat_le, ◌&&◌, if◌then◌else◌, List, Option, Some, None}
use Rattle.std.specs.List.{list_all}

-- an octet of an annotation: 0x20 to 0x7E, as those of a line (own)
abbrev pub is_note_octet : ℕ → Bool
is_note_octet b = nat_le 32 b && nat_le b 126

-- the annotation of these octets (own, after C706, profile elements)
unfoldable pub note_in : List ℕ → Option (List ℕ)
note_in octets = if list_all is_note_octet octets then Some octets else None

-- Elements of profiles: their octets field by field, and the first fault of octets that are none
-- (own, after C706, profile elements).
use Rattle.std.specs.Prelude.{◌≡◌, ℕ, ◌+◌, ◌-◌, ◌≤◌, Bool, true, not, ◌&&◌, ◌||◌, nat_lt, nat_le, ◌==◌, IsTrue, List, [], ◌∷◌, Option, Some, None}
use Rattle.std.specs.Prelude.{is_none, length, drop, slice_index, if◌then◌else◌}
use Rattle.std.specs.Int.{to_be_bytes, from_be_bytes, w16}
use Rattle.std.specs.List.{All, concat, list_all, slice_range}
use Rattle.std.specs.Option.{option_or}
use Rattle.uuid.specs.Parts.{zero_bytes}
use Rattle.tower_codec.specs.declared.rpc.Interface.{Interface}
use Rattle.tower_codec.specs.Rpc.{IsInterface}
use Rattle.cell_names.specs.FullNames.{full_name_octets, components_of, is_full_name, IsComponentList}
use Rattle.ns_profiles.specs.declared.element.Element.{Element}
use Rattle.ns_profiles.specs.declared.fault.ProfileFault.{ProfileFault}
use Rattle.ns_profiles.specs.declared.fault.ProfileFault.TheVariants.{BadElement}

-- the priority of a default element; those of the others are below it (own)
abbrev pub default_priority : ℕ
default_priority = 8

-- what a default element has in place of an interface: the nil UUID, version 0.0 (own)
abbrev pub no_interface : Interface
no_interface = record { uuid = zero_bytes; major = 0; minor = 0 }

-- an octet of an annotation: 0x20 to 0x7E (own)
abbrev pub is_annotation_octet : ℕ → Bool
is_annotation_octet b = nat_le 32 b && nat_le b 126

-- the fields of an element: priority, UUID, major and minor version, length of the member's name,
-- the member's name and the annotation; the highest octet of a number comes first (own, after C706,
-- profile elements)
abbrev pub element_fields : Element → List (List ℕ)
element_fields e =
    (e.priority ∷ [])
    ∷ e.interface.uuid
    ∷ to_be_bytes w16 e.interface.major
    ∷ to_be_bytes w16 e.interface.minor
    ∷ to_be_bytes w16 (length (full_name_octets e.member))
    ∷ full_name_octets e.member
    ∷ e.annotation
    ∷ []

-- the octets of an element: its fields one after another (own)
abbrev pub element_octets : Element → List ℕ
element_octets e = concat (element_fields e)

-- the fields have lawful values: a priority of 0 to 8, where 8 is that of default elements, which
-- have no interface; a full name; and octets of annotations (own, after C706, profile elements)
pub record IsElement (e : Element) : Type 0 where
  pub priority : e.priority ≤ default_priority
  pub interface : IsInterface e.interface
  pub default : e.priority ≡ default_priority → e.interface ≡ no_interface
  pub member : IsComponentList e.member
  pub annotation : All (λ b. IsTrue (is_annotation_octet b)) e.annotation

-- the octets are those of this element (own)
pub record IsElementOf (octets : List ℕ) (e : Element) : Type 0 where
  pub lawful : IsElement e
  pub spelled : octets ≡ element_octets e

-- a field of octets: how many octets stand before it, how many it has, and whether octets keep its
-- rule (own)
pub record Field : Type 0 where
  pub before : ℕ
  pub width : ℕ
  pub keeps : List ℕ → Bool

-- the octets of the field from one count of octets to another
abbrev pub field_octets : Field → List ℕ → List ℕ
field_octets field octets = slice_range octets field.before (field.before + field.width)

-- the fault of a field: after the last octet, where the octets end before the field is whole, and
-- else at its first octet, where it breaks its rule (own)
abbrev pub field_fault : List ℕ → Field → Option ProfileFault
field_fault octets field =
    if nat_lt (length octets) (field.before + field.width) then Some (BadElement (length octets + 1))
    else (if field.keeps (field_octets field octets) then None else Some (BadElement (field.before + 1)))

-- the fault of the first field that has one (own)
abbrev pub first_fault : List ℕ → List Field → Option ProfileFault
first_fault octets [] = None
first_fault octets (field ∷ fields) = option_or (field_fault octets field) (first_fault octets fields)

-- the priority, 0 to 8 (own)
abbrev pub priority_field : Field
priority_field = record { before = 0; width = 1; keeps = λ x. nat_le (slice_index x 0) default_priority }

-- a field of the interface, which is all zeros in a default element (own)
abbrev pub interface_field : (default : Bool) → (before width : ℕ) → Field
interface_field default before width = record { before = before; width = width; keeps = λ x. not default || list_all (λ b. b == 0) x }

-- the length of the member's name, which may be any number (own)
abbrev pub length_field : Field
length_field = record { before = 21; width = 2; keeps = λ x. true }

-- the member's name, of this length (own)
abbrev pub member_field : ℕ → Field
member_field width = record { before = 23; width = width; keeps = is_full_name }

-- the annotation, after a name of this length: what is left of so many octets (own)
abbrev pub annotation_field : (name whole : ℕ) → Field
annotation_field name whole = record { before = 23 + name; width = whole - (23 + name); keeps = list_all is_annotation_octet }

-- whether octets begin as those of a default element (own)
abbrev pub is_default : List ℕ → Bool
is_default octets = slice_index octets 0 == default_priority

-- the length that octets have for the member's name (own)
abbrev pub name_length : List ℕ → ℕ
name_length octets = from_be_bytes w16 (slice_range octets 21 23)

-- the fields of octets, as far as they are read as an element (own)
abbrev pub fields_of : List ℕ → List Field
fields_of octets =
    priority_field
    ∷ interface_field (is_default octets) 1 16
    ∷ interface_field (is_default octets) 17 2
    ∷ interface_field (is_default octets) 19 2
    ∷ length_field
    ∷ member_field (name_length octets)
    ∷ annotation_field (name_length octets) (length octets)
    ∷ []

-- the first fault of octets that are no element; none where they are one (own)
unfoldable pub element_fault : List ℕ → Option ProfileFault
element_fault octets = first_fault octets (fields_of octets)

-- the interface that the octets of an element have (own)
abbrev pub interface_in : List ℕ → Interface
interface_in octets = record {
  uuid = slice_range octets 1 17;
  major = from_be_bytes w16 (slice_range octets 17 19);
  minor = from_be_bytes w16 (slice_range octets 19 21);
}

-- the octets of the member's name, and of the annotation (own)
abbrev pub member_octets : List ℕ → List ℕ
member_octets octets = slice_range octets 23 (23 + name_length octets)

-- the octets of the annotation: all that are after the member's name (own)
abbrev pub annotation_octets : List ℕ → List ℕ
annotation_octets octets = drop (23 + name_length octets) octets

-- what the octets of an element say (own)
abbrev pub element_of_octets : List ℕ → Element
element_of_octets octets = record {
  priority = slice_index octets 0;
  interface = interface_in octets;
  member = components_of (member_octets octets);
  annotation = annotation_octets octets;
}

-- the element of octets that are one (own)
abbrev pub element_of : List ℕ → Option Element
element_of octets = if is_none (element_fault octets) then Some (element_of_octets octets) else None

-- Simple names and attribute names, and the first fault of octets that are none (own, after C705,
-- CDS names).
use Rattle.std.specs.Prelude.{ℕ, ◌+◌, ◌<◌, ◌≤◌, Bool, ◌&&◌, ◌||◌, not, nat_lt, nat_le, ◌==◌, IsTrue, List, [], ◌∷◌, length, Option, Some, None, if◌then◌else◌}
use Rattle.std.specs.List.{All}
use Rattle.cds_stamps.specs.declared.names.NameFault.{NameFault}
use Rattle.cds_stamps.specs.declared.names.NameFault.TheVariants.{Empty, BadOctet, ComponentTooLong}
use Rattle.cds_stamps.specs.declared.names.AttrFault.{AttrFault}
use Rattle.cds_stamps.specs.declared.names.AttrFault.TheVariants.{BadAttr}

-- an octet of a name: 0x21 to 0x7E other than the slash (own, after C705)
abbrev pub is_name_octet : ℕ → Bool
is_name_octet b = nat_lt 32 b && nat_lt b 127 && not (b == 47)

-- the most octets of a simple name (own)
abbrev pub longest_component : ℕ
longest_component = 254

-- octets of names, at least one and not too many (own, after C705, CDS names)
pub record IsSimpleName (octets : List ℕ) : Type 0 where
  pub filled : 0 < length octets
  pub short : length octets ≤ longest_component
  pub each : All (λ b. IsTrue (is_name_octet b)) octets

-- the first fault of a component whose first octet of these is at this place, the n-th of the
-- component: an octet outside the set, or the first octet too many (own)
abbrev pub component_fault : (place n : ℕ) → List ℕ → Option NameFault
component_fault place n [] = None
component_fault place n (b ∷ bs) =
    if not (is_name_octet b) then Some (BadOctet place)
    else (if n == longest_component + 1 then Some (ComponentTooLong place) else component_fault (place + 1) (n + 1) bs)

-- the fault of octets that are no simple name (own)
abbrev pub simple_name_fault : List ℕ → Option NameFault
simple_name_fault [] = Some (Empty 1)
simple_name_fault (b ∷ bs) = component_fault 1 1 (b ∷ bs)

-- an octet of an attribute name: a letter, a digit or the low line (own)
abbrev pub is_attr_octet : ℕ → Bool
is_attr_octet b = (nat_le 65 b && nat_le b 90) || (nat_le 97 b && nat_le b 122) || (nat_le 48 b && nat_le b 57) || (b == 95)

-- the most octets of an attribute name (own)
abbrev pub longest_attr : ℕ
longest_attr = 31

-- octets of attribute names, at least one and not too many (own)
pub record IsAttrName (octets : List ℕ) : Type 0 where
  pub filled : 0 < length octets
  pub short : length octets ≤ longest_attr
  pub each : All (λ b. IsTrue (is_attr_octet b)) octets

-- the first fault from this place on: an octet outside the set, or the first octet too many (own)
abbrev pub attr_fault_from : ℕ → List ℕ → Option AttrFault
attr_fault_from place [] = None
attr_fault_from place (b ∷ bs) = if not (is_attr_octet b) || (place == longest_attr + 1) then Some (BadAttr place) else attr_fault_from (place + 1) bs

-- the fault of octets that are no attribute name; of none it is at place 1 (own)
abbrev pub attr_fault : List ℕ → Option AttrFault
attr_fault [] = Some (BadAttr 1)
attr_fault (b ∷ bs) = attr_fault_from 1 (b ∷ bs)

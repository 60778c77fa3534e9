-- The fields of records. Numbers are big-endian.
use Rattle.std.specs.Prelude.{ℕ, ◌+◌, ◌*◌, ◌/◌, ◌%◌, ◌++◌, Bool, false, ◌||◌, ◌==◌, nat_lt, List, take, drop, slice_index, Option, Some, None, if◌then◌else◌}
use Rattle.std.specs.List.{list_all}
use Rattle.std.specs.Int.{Width, byte_len, w16, w32, w64, from_be_bytes, to_be_bytes}
use Rattle.std.specs.Ordering.{is_lt}
use Rattle.cds_stamps.specs.declared.stamp.Stamp.{Stamp}
use Rattle.cds_stamps.specs.Stamps.{is_earlier}
use Rattle.cds_stamps.specs.Names.{is_name_octet, is_attr_octet, longest_component, longest_attr}
use Rattle.cds_stamps.specs.Octets.{octets_cmp}
use Rattle.attr_sets.specs.CellPurges.{is_above}
use Rattle.attr_sets.specs.Values.{longest_value}
use Rattle.record_fields.specs.declared.fault.Rule.{Rule}
use Rattle.record_fields.specs.declared.fault.Rule.TheVariants.{BadLength, BadName, OutOfOrder, BadFlag, NotAbove}
use Rattle.record_fields.specs.Layouts.{Layout, done, field, next, choose}

-- a field of any value
abbrev pub free : {A : Type 0} → A → Option Rule
free value = None

-- the rule is broken by a number that is not in this range
abbrev pub outside : Rule → (least most : ℕ) → ℕ → Option Rule
outside rule least most n = if nat_lt n least || nat_lt most n then Some rule else None

-- a number that is not above the one before it
abbrev pub number_order : Option ℕ → ℕ → Option Rule
number_order None n = None
number_order (Some before) n = if nat_lt before n then None else Some OutOfOrder

-- octets that are not above those before them; a proper prefix comes first
abbrev pub octets_order : Option (List ℕ) → List ℕ → Option Rule
octets_order None octets = None
octets_order (Some before) octets = if is_lt (octets_cmp before octets) then None else Some OutOfOrder

-- a stamp that is earlier than the clear
abbrev pub is_cleared : Option Stamp → Stamp → Bool
is_cleared None s = false
is_cleared (Some cleared) s = is_earlier s cleared

-- a stamp that is not later than this one, if there is one
abbrev pub above_rule : Option Stamp → Stamp → Option Rule
above_rule above s = if is_above above s then None else Some NotAbove

-- the stamp of a mark that is earlier than the clear, or else is not above
abbrev pub mark_rule : (above cleared : Option Stamp) → Stamp → Option Rule
mark_rule above cleared s = if is_cleared cleared s then Some OutOfOrder else above_rule above s

-- octets of which one is in no name, and then those that are not above the name before
abbrev pub name_rule : (ℕ → Bool) → Option (List ℕ) → List ℕ → Option Rule
name_rule is_octet before octets = if list_all is_octet octets then octets_order before octets else Some BadName

-- ---- numbers

-- one octet
unfoldable pub octet : (ℕ → Option Rule) → Layout ℕ
octet rule = field 1 (λ o. slice_index o 0) rule

-- a number of this width
unfoldable pub number : Width → (ℕ → Option Rule) → Layout ℕ
number w rule = field (byte_len w) (from_be_bytes w) rule

-- the number of a node has 48 bits
abbrev pub node_of : List ℕ → ℕ
node_of octets = 4294967296 * from_be_bytes w16 (take 2 octets) + from_be_bytes w32 (drop 2 octets)

-- its octets
abbrev pub node_octets : ℕ → List ℕ
node_octets n = to_be_bytes w16 (n / 4294967296) ++ to_be_bytes w32 (n % 4294967296)

-- a node
unfoldable pub node : Layout ℕ
node = field 6 node_of free

-- ---- stamps: the time in 8 octets, and the node in 6

-- what 14 octets say
abbrev pub stamp_of : List ℕ → Stamp
stamp_of octets = record { time = from_be_bytes w64 (take 8 octets); node = node_of (drop 8 octets) }

-- a stamp
unfoldable pub stamp : (Stamp → Option Rule) → Layout Stamp
stamp rule = field 14 stamp_of rule

-- after a flag of 1 a stamp is there, after 0 nothing
abbrev pub stamp_if : (above : Option Stamp) → ℕ → Layout (Option Stamp)
stamp_if above flag = choose (flag == 0) (done None) (next (stamp (above_rule above)) (λ s. done (Some s)))

-- a flag, and where it is 1 a stamp that is above
unfoldable pub optional_stamp : (above : Option Stamp) → Layout (Option Stamp)
optional_stamp above = next (octet (outside BadFlag 0 1)) (stamp_if above)

-- ---- octets after their number

-- so many octets that keep a rule
unfoldable pub octets_of : ℕ → (List ℕ → Option Rule) → Layout (List ℕ)
octets_of size rule = field size (λ o. o) rule

-- a simple name above the one before it, after its length in 1 octet
unfoldable pub simple_name : Option (List ℕ) → Layout (List ℕ)
simple_name before = next (octet (outside BadLength 1 longest_component)) (λ n. octets_of n (name_rule is_name_octet before))

-- an attribute's name, in the same way
unfoldable pub attr_name : Option (List ℕ) → Layout (List ℕ)
attr_name before = next (octet (outside BadLength 1 longest_attr)) (λ n. octets_of n (name_rule is_attr_octet before))

-- a value above the one before it, after its length in 2 octets
unfoldable pub value : Option (List ℕ) → Layout (List ℕ)
value before = next (number w16 (outside BadLength 1 longest_value)) (λ n. octets_of n (octets_order before))

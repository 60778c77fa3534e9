-- The octets of fields, keyed lists, marks and cells as functions, field by field. Numbers are
-- big-endian.
use Rattle.std.specs.Prelude.{ℕ, List, [], ◌∷◌, ◌++◌, length, Option, Some, None, if◌then◌else◌}
use Rattle.std.specs.List.{flat_map}
use Rattle.std.specs.Int.{w16, w64, to_be_bytes}
use Rattle.std.specs.FinMap.{FinMap, entries, len}
use Rattle.std.specs.declared.cmp.Ordering.{Ordering}
use Rattle.cds_stamps.specs.declared.stamp.Stamp.{Stamp}
use Rattle.attr_sets.specs.declared.mark.ValueMark.{ValueMark}
use Rattle.attr_sets.specs.declared.cell.AttrCell.{AttrCell}
use Rattle.record_fields.specs.Fields.{node_octets}

-- ---- fields

-- a stamp: its time in 8 octets, and its node in 6
unfoldable pub stamp_octets : Stamp → List ℕ
stamp_octets s = to_be_bytes w64 s.time ++ node_octets s.node

-- a flag, and a stamp where it is 1
unfoldable pub optional_stamp_octets : Option Stamp → List ℕ
optional_stamp_octets None = 0 ∷ []
optional_stamp_octets (Some s) = 1 ∷ stamp_octets s

-- a simple name or an attribute's name, after its length in 1 octet
unfoldable pub name_octets : List ℕ → List ℕ
name_octets name = length name ∷ name

-- a value, after its length in 2 octets
unfoldable pub value_octets : List ℕ → List ℕ
value_octets value = to_be_bytes w16 (length value) ++ value

-- ---- keyed lists

-- each key, and what is said of it
unfoldable pub items_octets : {K X : Type 0} → (K → List ℕ) → (X → List ℕ) → List (K × X) → List ℕ
items_octets key content es = flat_map (λ e. key e.0 ++ content e.1) es

-- the entries of a map, in order
abbrev pub each_octets : {K X : Type 0} {R : K → K → Ordering} → (K → List ℕ) → (X → List ℕ) → FinMap R X → List ℕ
each_octets key content m = items_octets key content (entries m)

-- ---- marks and cells

-- a mark: 1 where the value is present and else 0, and the stamp
unfoldable pub mark_octets : ValueMark → List ℕ
mark_octets m = (if m.present then 1 else 0) ∷ stamp_octets m.stamp

-- the clear of an attribute, how many values it has, and they with their marks
unfoldable pub cell_octets : AttrCell → List ℕ
cell_octets c = optional_stamp_octets c.cleared ++ to_be_bytes w64 (len c.values) ++ each_octets value_octets mark_octets c.values

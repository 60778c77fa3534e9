-- Words of private contracts: the first open fact of a value, an attribute and an entry, beside
-- what the other replica has.
use Rattle.std.specs.Prelude.{◌≡◌, ℕ, false, not, ◌&&◌, List, Option, Some, None, if◌then◌else◌}
use Rattle.std.specs.Option.{option_map, option_map_or, option_and_then, option_or}
use Rattle.std.specs.FinMap.{entries, get}
use Rattle.cds_stamps.specs.declared.stamp.Stamp.{Stamp}
use Rattle.cds_stamps.specs.Firsts.{first_some}
use Rattle.cds_stamps.specs.Stamps.{is_earlier, is_up_to, is_stamp}
use Rattle.attr_sets.specs.declared.mark.ValueMark.{ValueMark}
use Rattle.attr_sets.specs.declared.cell.AttrCell.{AttrCell}
use Rattle.directory.specs.declared.entry.EntryCell.{EntryCell}
use Rattle.image_audit.specs.declared.fact.Fact.{Fact}
use Rattle.image_audit.specs.declared.fact.Fact.TheVariants.{Birth, Value}
use Rattle.image_audit.specs.declared.fact.OpenFact.{OpenFact}
use Rattle.image_audit.specs.declared.fact.OpenFact.TheVariants as lent
use Rattle.directory.specs.Kinds.{is_kind}
use Rattle.image_audit.specs.Facts.{answers_cell}

-- the fact that is lent
abbrev pub fact_of : OpenFact → Fact
fact_of (lent.Birth n k c) = Birth n.now k c
fact_of (lent.Value n c a v s) = Value n.now c a.now v.now s

-- the fact that is found, if there is one, is this
abbrev pub IsFact : Option OpenFact → Option Fact → Type 0
IsFact found fact = option_map fact_of found ≡ fact

-- a value is reported, if it is present by a mark up to t, and the other's attribute of the same
-- birth does not answer
abbrev pub open_value : Stamp → (name : List ℕ) → (birth : Stamp) → (attr : List ℕ)
    → (other : Option AttrCell) → List ℕ × ValueMark → Option Fact
open_value t n c a other v =
    if (v.1.present && is_up_to t v.1.stamp) && not
    (option_map_or (answers_cell v.0 v.1.stamp) other false) then Some
    (Value n c a v.0 v.1.stamp) else None

-- the first value of an attribute that is reported, beside the other's entry of the same birth
abbrev pub open_attr : Stamp → (name : List ℕ) → (birth : Stamp) → (same : Option EntryCell)
    → List ℕ × AttrCell → Option Fact
open_attr t n c same a =
    first_some (open_value t n c a.0 (option_and_then (λ o. get o.attrs a.0) same))
    (entries a.1.values)

-- a birth up to t is reported, unless the other's entry of the same birth has that kind
abbrev pub open_birth : Stamp → (name : List ℕ) → EntryCell → (same : Option EntryCell)
    → Option Fact
open_birth t n e same =
    if is_up_to t e.birth && not (option_map_or (λ o. is_kind o.kind e.kind) same false) then Some
    (Birth n e.kind e.birth) else None

-- the first fact of an entry that is reported, beside the other's entry of the same birth
abbrev pub open_beside : Stamp → (name : List ℕ) → EntryCell → (same : Option EntryCell)
    → Option Fact
open_beside t n e same =
    option_or (open_birth t n e same) (first_some (open_attr t n e.birth same) (entries e.attrs))

-- the first fact of an entry that is reported, beside what the other has of its name: none beside a
-- later birth
abbrev pub open_entry : Stamp → (name : List ℕ) → EntryCell → (other : Option EntryCell)
    → Option Fact
open_entry t n e None = open_beside t n e None
open_entry t n e (Some o) =
    if is_earlier e.birth o.birth then None else open_beside t n e
    (if is_stamp o.birth e.birth then Some o else None)

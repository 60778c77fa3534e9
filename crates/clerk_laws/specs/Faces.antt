-- What a house has of a name, and what a clerk hears of it.
use Rattle.std.specs.Prelude.{◌≡◌, ℕ, Bool, ◌&&◌, not, ◌==◌, if◌then◌else◌, List, Option, Some, None, is_some}
use Rattle.std.specs.FinMap.{get, entries}
use Rattle.std.specs.List.{All}
use Rattle.std.specs.Option.{option_map}
use Rattle.attr_sets.specs.AttributeCells.{cell_values}
use Rattle.cds_stamps.specs.Members.{master_of, members_of}
use Rattle.cds_stamps.specs.Names.{attr_fault}
use Rattle.cell_names.specs.ChildPointers.{Pointer, pointer_of}
use Rattle.cell_names.specs.FullNames.{components_of}
use Rattle.cell_names.specs.declared.pointer.ChildPointer.{ChildPointer}
use Rattle.directory.specs.Shown.{entry_values, face_of, lead_of, shown_entry}
use Rattle.directory.specs.declared.entry.EntryCell.{EntryCell}
use Rattle.directory.specs.declared.entry.Kind.{Kind}
use Rattle.directory.specs.declared.entry.Kind.TheVariants as kind
use Rattle.house_directory.specs.declared.states.DirState.{DirState}
use Rattle.house_directory.specs.declared.states.DirState.TheVariants as state
use Rattle.clerk_lines.specs.declared.hearing.Told.{Told}
use Rattle.clerk_lines.specs.declared.hearing.Told.TheVariants as told
use Rattle.clerk_lines.specs.declared.shown.Lead.{Lead}
use Rattle.clerk_lines.specs.declared.shown.Lead.TheVariants as lead
use Rattle.clerk_lines.specs.declared.shown.ShownEntry.{ShownEntry}
use Rattle.clerk_lines.specs.ShownEntries.{attr_values}
use Rattle.clerk_lines.specs.ShownTexts.{IsSayableChild, IsValue}

-- ---- what a house shows of a name

-- the entry, if it shows
abbrev pub live : Option EntryCell → Option EntryCell
live None = None
live (Some e) = if is_some (shown_entry e) then Some e else None

-- what the house x shows of a name, if it answers; at `high` the master alone does, by its own list
abbrev pub shown_to : (x : ℕ) → (high : Bool) → (name : List ℕ) → Option DirState
    → Option (Option EntryCell)
shown_to x high name None = None
shown_to x high name (Some (state.Gone e)) = None
shown_to x high name (Some (state.Held h)) =
    if high && not (master_of (members_of h.members) == x) then None
    else Some (live (get h.replica.table name))

-- ---- what is heard of it

-- a child that leads there
abbrev pub child_at : Pointer → ChildPointer
child_at p = record {
  dir = record { 0 = p.dir };
  houses =
      record { master = p.master; others = p.others };
}

-- where an entry of this kind leads, by the octets that say so
abbrev pub lead_at : Kind → Option (List ℕ) → Option Lead
lead_at kind.Object octets = Some lead.Object
lead_at kind.Link octets = option_map (λ v. lead.Link (components_of v)) octets
lead_at kind.Child None = None
lead_at kind.Child (Some v) = option_map (λ p. lead.Child (child_at p)) (pointer_of v)

-- what was heard is what the entry shows: where it leads, and the values of each attribute
pub record IsFace (e : EntryCell) (s : ShownEntry) : Type 0 where
  pub leads : lead_at e.kind (lead_of (face_of e)) ≡ Some s.lead
  pub values : (attr : List ℕ) → attr_values attr s.attrs ≡ entry_values e attr

-- what was heard is what the house shows
abbrev pub IsHeardOf : Option (Option EntryCell) → Told → Type 0
IsHeardOf None t = t ≡ told.Passed
IsHeardOf (Some None) t = t ≡ told.Absent
IsHeardOf (Some (Some e)) t = (s : ShownEntry) × (t ≡ told.Shows s) × IsFace e s

-- ---- what lines can say

-- a child leads to a directory and houses whose numbers lines can have
abbrev pub IsSayableLed : Kind → Option (List ℕ) → Type 0
IsSayableLed kind.Object octets = Unit {0}
IsSayableLed kind.Link octets = Unit {0}
IsSayableLed kind.Child None = Unit {0}
IsSayableLed kind.Child (Some v) =
    (p : Pointer) × (pointer_of v ≡ Some p) × IsSayableChild (child_at p)

-- the names of the attributes are such, and so are the values
pub record IsSayableCell (e : EntryCell) : Type 0 where
  pub named : All (λ a. attr_fault a.0 ≡ None) (entries e.attrs)
  pub values : All (λ a. All IsValue (cell_values a.1)) (entries e.attrs)
  pub led : IsSayableLed e.kind (lead_of (face_of e))

-- likewise of what shows of a name, if anything does
abbrev pub IsSayableShown : Option (Option EntryCell) → Type 0
IsSayableShown None = Unit {0}
IsSayableShown (Some None) = Unit {0}
IsSayableShown (Some (Some e)) = IsSayableCell e

-- what a house shows of a name to those who ask so
abbrev pub IsSayableTo : (x : ℕ) → (high : Bool) → (name : List ℕ) → Option DirState → Type 0
IsSayableTo x high name dir = IsSayableShown (shown_to x high name dir)

-- What a cell tells a reader (own, after C705, lookups of clerks).
use Rattle.std.specs.Prelude.{ℕ, Bool, if◌then◌else◌, ◌==◌, List, [], ◌∷◌, map, Option, Some, None}
use Rattle.std.specs.List.{flat_map, range_with_len}
use Rattle.cds_stamps.specs.Numbers.{root_dir}
use Rattle.cds_stamps.specs.Members.{Member, master_of, others_of}
use Rattle.cell_names.specs.FullNames.{components_of, is_full_name}
use Rattle.cell_names.specs.ChildPointers.{Pointer, pointer_of}
use Rattle.directory.specs.declared.entry.Kind.{Kind}
use Rattle.directory.specs.declared.entry.Kind.TheVariants as kind
use Rattle.directory.specs.Histories.{name_in}
use Rattle.directory.specs.Shown.{Shown, shown_of_name, lead_of}
use Rattle.cell_model.specs.Cells.{Cell, Replica, Slot}
use Rattle.cell_model.specs.Cells as slot
use Rattle.resolver.specs.declared.seen.Found.{Found}
use Rattle.resolver.specs.Readers.{Reader, Sight, Unreachable, Absent, Object, Link, Child, object_found}
use Rattle.cds_cell.specs.Asking.{Asked, View, Views, house_to_ask}

-- a directory and the houses of its member list (own)
abbrev pub pointer_to : (d : ℕ) → List Member → Pointer
pointer_to d members = record { dir = d; master = master_of members; others = others_of (master_of members) members }

-- where the root directory is: where the console says, if there is one (own)
abbrev pub root_pointer : Cell → Option Pointer
root_pointer g = if g.top root_dir == 0 then None else Some (pointer_to root_dir (g.present root_dir))

-- a link and a child that a house shows, where the value reads as a full name, and as a pointer
-- (own, after C705, soft links and child pointers)
abbrev pub link_sight : (house : ℕ) → List ℕ → Sight
link_sight house v = if is_full_name v then Link house (components_of v) else Absent house

-- likewise of a child (own)
abbrev pub child_sight : (house : ℕ) → Option Pointer → Sight
child_sight house None = Absent house
child_sight house (Some p) = Child house p

-- what a house shows of an entry: an object; or where its one readable value leads, and no entry
-- where there is not exactly one (own, after C705, object entries, soft links and child pointers)
abbrev pub led_sight : Kind → (house : ℕ) → Option (List ℕ) → Sight
led_sight kind.Object house lead = Object house
led_sight kind.Link house None = Absent house
led_sight kind.Link house (Some v) = link_sight house v
led_sight kind.Child house None = Absent house
led_sight kind.Child house (Some v) = child_sight house (pointer_of v)

-- and of what shows, if anything does (own)
abbrev pub shown_sight : (house : ℕ) → Option Shown → Sight
shown_sight house None = Absent house
shown_sight house (Some e) = led_sight e.kind house (lead_of e)

-- what is seen of a name at the house that is asked, if one can be (own)
abbrev pub sight_at : List ℕ → Option Asked → Sight
sight_at name None = Unreachable
sight_at name (Some a) = shown_sight a.house (a.view.shows name)

-- the values that show of an attribute (own)
abbrev pub values_of : List ℕ → Option Shown → List (List ℕ)
values_of attr None = []
values_of attr (Some e) = e.values attr

-- the values of an entry by what its house shows, if it shows anything (own)
abbrev pub values_at : Found → List ℕ → Option View → List (List ℕ)
values_at at attr None = []
values_at at attr (Some v) = values_of attr (v.shows at.name)

-- a reader that prefers a house, or none, and trusts any replica or the master's alone, by where
-- the root directory is and what each house shows (own)
abbrev pub reader_of : Option Pointer → Views → (prefer : Option ℕ) → (high : Bool) → Reader
reader_of root views prefer high = record {
  root = root;
  sees = λ p name. sight_at name (house_to_ask views p.dir prefer high (p.master ∷ p.others));
  values = λ at attr. values_at at attr (views at.dir.0 at.house.0);
}

-- what shows of a history, to those members (own)
abbrev pub view_of : Replica → View
view_of r = record { members = r.members; shows = shown_of_name r.history }

-- what a house shows by what it has of a directory (own)
abbrev pub slot_view : Slot → Option View
slot_view slot.Absent = None
slot_view (slot.Gone e) = None
slot_view (slot.Held r) = Some (view_of r)

-- what each house shows of each directory, if it is up (own)
abbrev pub views_of : Cell → Views
views_of g d x = if (g.house x).up then slot_view ((g.house x).slots d) else None

-- what a cell tells such a reader (own, after C705, lookups of clerks)
abbrev pub cell_reader : Cell → (prefer : Option ℕ) → (high : Bool) → Reader
cell_reader g prefer high = reader_of (root_pointer g) (views_of g) prefer high

-- an object for each mark that a house has of a directory: more than show, but finitely many (own)
abbrev pub objects_in : (x d : ℕ) → Slot → List Found
objects_in x d slot.Absent = []
objects_in x d (slot.Gone e) = []
objects_in x d (slot.Held r) = map (λ m. object_found d x (name_in m)) r.history

-- objects, all that a cell shows among them: those of each house that was made and each directory
-- number so far (own)
abbrev pub objects_of : Cell → List Found
objects_of g = flat_map (λ x. flat_map (λ d. objects_in x d ((g.house x).slots d)) (range_with_len 0 g.next_dir)) g.made

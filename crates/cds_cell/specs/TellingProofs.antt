-- Proofs alone: what a cell of the program tells a reader ascends, and it shows no objects but
-- those of the list.
use Rattle.std.specs.Prelude.{◌≡◌, ℕ, Bool, true, false, ◌&&◌, ◌||◌, ◌==◌, if◌then◌else◌, List, [], ◌∷◌}
use Rattle.std.specs.Prelude.{Option, Some, None, is_some, is_none, refl}
use Rattle.std.specs.FinMap.{FinMap, IsAntisymmetric, get, keys, contains_key-keys}
use Rattle.std.specs.List.{Contains, flat_map, list_any}
use Rattle.std.specs.List.Sorted.{IsStrictlySortedBy}
use Rattle.std.specs.Option.{option_map, option_and_then, option_map_or}
use Rattle.std.specs.declared.cmp.Ordering.{Ordering}
use Rattle.std.specs.Ordering.{eq_by_cmp}
use Rattle.std.proofs.Common.{sym, ◌∙◌, ap, subst, arith}
use Rattle.std.proofs.lemmas.Bool.Decides.{nat_tests}
use Rattle.std.proofs.lemmas.List.Elements.{Contains-append_left, Contains-append_right}
use Rattle.attr_sets.specs.declared.cell.AttrCell.{AttrCell}
use Rattle.attr_sets.specs.AttributeCells.{cell_values}
use Rattle.attr_sets.proofs.ShownLaws.{cell_values-ascending}
use Rattle.cds_messages.specs.Dirs.{dir_exact}
use Rattle.cds_stamps.proofs.ListMembers.{Contains-flat_map, Contains-head, Contains-tail, Contains-map}
use Rattle.cds_stamps.specs.declared.numbers.DirId.{DirId}
use Rattle.cds_stamps.specs.Keyed.{ties_are_equal}
use Rattle.cds_stamps.specs.Octets.{octets_cmp, octets_exact}
use Rattle.house_directory.specs.declared.states.DirState.{DirState}
use Rattle.house_directory.specs.declared.states.DirState.TheVariants as dir
use Rattle.directory.specs.declared.entry.EntryCell.{EntryCell}
use Rattle.directory.specs.Entries.{Entries}
use Rattle.directory.specs.Shown.{Shown, shown_entry, shown_in, entry_values, face_of, leads}
use Rattle.resolver.specs.declared.seen.Found.{Found}
use Rattle.resolver.specs.Readers.{Object, ShowsOnly, object_found}
use Rattle.cds_cell.specs.declared.cell.Cell.{Cell}
use Rattle.cds_cell.specs.declared.house.CellHouse.{CellHouse}
use Rattle.cds_cell.specs.declared.house.HouseState.{HouseState}
use Rattle.cds_cell.specs.declared.house.HouseState.TheVariants as state
use Rattle.cds_cell.specs.Asking.{Asked, View, house_to_ask}
use Rattle.cds_cell.specs.AskingProofs.{asked_shows, shown_object}
use Rattle.cds_cell.specs.Readings.{sight_at, values_of, values_at}
use Rattle.cds_cell.specs.ModelCells.{house_of}
use Rattle.cds_cell.specs.Telling.{dir_view, state_view, told_views, program_reader, objects_held, objects_at, told_objects}

-- ---- maps

-- what has a value in a map is one of its keys
any_has : {K : Type 0} {R : K → K → Ordering} → IsAntisymmetric R → (k : K) (ks : List K) → list_any (eq_by_cmp R k) ks ≡ true → Contains ks k
any_has exact k [] h = cc
any_has {K = K} {R = R} exact k (j ∷ ks) h = by_test (eq_by_cmp R k j) refl (any_has exact k ks) h
  where
    by_test : (b : Bool) → eq_by_cmp R k j ≡ b → (list_any (eq_by_cmp R k) ks ≡ true → Contains ks k)
        → (b || list_any (eq_by_cmp R k) ks) ≡ true → Contains (j ∷ ks) k
    by_test true is rest h = subst (λ (n : K). Contains (j ∷ ks) n) (sym (ties_are_equal exact k j is)) (Contains-head j ks)
    by_test false is rest h = Contains-tail j ks k (rest h)

listed_key : {K X : Type 0} {R : K → K → Ordering} → IsAntisymmetric R → (m : FinMap R X) (k : K) → is_some (get m k) ≡ true → Contains (keys m) k
listed_key exact m k h = any_has exact k (keys m) (sym (contains_key-keys m k) ∙ h)

-- ---- values ascend

abbrev Rises : List (List ℕ) → Type 0
Rises vs = IsStrictlySortedBy octets_cmp vs

none_rise : Rises []
unfolding IsStrictlySortedBy
none_rise = tt

entry_rises : (e : EntryCell) (attr : List ℕ) → Rises (entry_values e attr)
entry_rises e attr = by_cell (get e.attrs attr)
  where
    by_cell : (o : Option AttrCell) → Rises (option_map_or cell_values o [])
    by_cell None = none_rise
    by_cell (Some c) = cell_values-ascending c

shown_rise : (attr : List ℕ) (o : Option EntryCell) → Rises (values_of attr (option_and_then shown_entry o))
shown_rise attr None = none_rise
shown_rise attr (Some e) = by_test (is_none e.death && leads e.kind (entry_values e))
  where
    by_test : (b : Bool) → Rises (values_of attr (if b then Some (face_of e) else None))
    by_test true = entry_rises e attr
    by_test false = none_rise

dir_rise : (at : Found) (attr : List ℕ) (o : Option DirState) → Rises (values_at at attr (dir_view o))
dir_rise at attr None = none_rise
dir_rise at attr (Some (dir.Gone e)) = none_rise
dir_rise at attr (Some (dir.Held h)) = shown_rise attr (get h.replica.table at.name)

state_rise : (at : Found) (attr : List ℕ) (d : DirId) (o : Option HouseState) → Rises (values_at at attr (option_and_then (state_view d) o))
state_rise at attr d None = none_rise
state_rise at attr d (Some (state.Up c)) = dir_rise at attr (get c.dirs d)
state_rise at attr d (Some (state.Down octets)) = none_rise

-- the values that a cell tells ascend, each once
pub told_values_rise : (c : Cell) (at : Found) (attr : List ℕ) → Rises (values_at at attr (told_views c at.dir.0 at.house.0))
told_values_rise c at attr = state_rise at attr at.dir (option_map (λ h. h.state) (house_of c.houses.items at.house.0))

-- ---- the objects that show

-- a name that shows is a key of the table
shown_key : (t : Entries) (name : List ℕ) → is_some (shown_in t name) ≡ true → Contains (keys t) name
shown_key t name h = listed_key octets_exact t name (by_entry (get t name) h)
  where
    by_entry : (o : Option EntryCell) → is_some (option_and_then shown_entry o) ≡ true → is_some o ≡ true
    by_entry None h = cc
    by_entry (Some e) h = refl

-- an object that what is had of a directory shows is listed
held_listed : (x : ℕ) (d : DirId) (name : List ℕ) (o : Option DirState) (v : View) → dir_view o ≡ Some v → is_some (v.shows name) ≡ true
    → Contains (objects_held x d o) (object_found d.0 x name)
held_listed x d name None v is h = cc
held_listed x d name (Some (dir.Gone e)) v is h = cc
held_listed x d name (Some (dir.Held held)) v is h =
    let shows : shown_in held.replica.table ≡ v.shows = cc in
    Contains-map (object_found d.0 x) (keys held.replica.table) name
    (shown_key held.replica.table name (ap (λ (f : List ℕ → Option Shown). is_some (f name)) shows ∙ h))

some_view : (o : Option DirState) (v : View) → dir_view o ≡ Some v → is_some o ≡ true
some_view None v is = cc
some_view (Some s) v is = refl

-- an object that there is at a house is listed
state_listed : (x : ℕ) (d : DirId) (name : List ℕ) (s : HouseState) (v : View) → state_view d s ≡ Some v → is_some (v.shows name) ≡ true
    → Contains (objects_at x s) (object_found d.0 x name)
state_listed x d name (state.Down octets) v is h = cc
state_listed x d name (state.Up c) v is h =
    Contains-flat_map (λ k. objects_held x k (get c.dirs k)) (keys c.dirs) d (object_found d.0 x name)
    (listed_key dir_exact c.dirs d (some_view (get c.dirs d) v is)) (held_listed x d name (get c.dirs d) v is h)

-- and an object of a house of the cell is listed
house_listed : (x : ℕ) (d : DirId) (name : List ℕ) (hs : List CellHouse) (v : View)
    → option_and_then (state_view d) (option_map (λ h. h.state) (house_of hs x)) ≡ Some v → is_some (v.shows name) ≡ true
    → Contains (flat_map (λ h. objects_at h.house.0 h.state) hs) (object_found d.0 x name)
house_listed x d name [] v is h = cc
house_listed x d name (k ∷ ks) v is h = by_test (k.house.0 == x) refl is (λ there. house_listed x d name ks v there h)
  where
    by_test : (b : Bool) → (k.house.0 == x) ≡ b
        → option_and_then (state_view d) (option_map (λ h. h.state) (if b then Some k else house_of ks x)) ≡ Some v
        → (option_and_then (state_view d) (option_map (λ h. h.state) (house_of ks x)) ≡ Some v
        → Contains (flat_map (λ h. objects_at h.house.0 h.state) ks) (object_found d.0 x name))
        → Contains (flat_map (λ h. objects_at h.house.0 h.state) (k ∷ ks)) (object_found d.0 x name)
    by_test true on is rest =
        let same : k.house.0 ≡ x = grind (arith, nat_tests, on) in
        let here : Contains (objects_at k.house.0 k.state) (object_found d.0 k.house.0 name) = state_listed k.house.0 d name k.state v is h in
        Contains-append_left (objects_at k.house.0 k.state) (flat_map (λ h. objects_at h.house.0 h.state) ks) (object_found d.0 x name)
        (subst (λ y. Contains (objects_at k.house.0 k.state) (object_found d.0 y name)) same here)
    by_test false off is rest =
        Contains-append_right (objects_at k.house.0 k.state) (flat_map (λ h. objects_at h.house.0 h.state) ks) (object_found d.0 x name) (rest is)

-- each object that a cell shows is listed
pub told_shows_only : (c : Cell) (prefer : Option ℕ) (high : Bool) → ShowsOnly (program_reader c prefer high) (told_objects c)
told_shows_only c prefer high at house name h = by_asked (house_to_ask (told_views c) at.dir prefer high (at.master ∷ at.others)) refl h
  where
    by_asked : (o : Option Asked) → house_to_ask (told_views c) at.dir prefer high (at.master ∷ at.others) ≡ o → sight_at name o ≡ Object house
        → Contains (told_objects c) (object_found at.dir house name)
    by_asked None is h = cc
    by_asked (Some a) is h =
        let shows = shown_object a.house house (a.view.shows name) h in
        subst (λ x. Contains (told_objects c) (object_found at.dir x name)) shows.0
        (house_listed a.house (record { 0 = at.dir }) name c.houses.items a.view
        (asked_shows (told_views c) at.dir prefer high (at.master ∷ at.others) a is) shows.1)

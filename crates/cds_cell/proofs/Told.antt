-- What the program tells a reader is what the cell of the model tells it.
use Rattle.std.proofs.Common.{◌≡◌, ℕ, List, [], ◌∷◌, Bool, false, refl, sym, ◌∙◌, ap, arith}
use Rattle.std.specs.Prelude.{Option, Some, None, is_some, ◌==◌}
use Rattle.std.specs.FinMap.{get}
use Rattle.std.specs.Option.{option_map, option_and_then}
use Rattle.std.proofs.lemmas.Bool.Decides.{nat_tests}
use Rattle.cds_stamps.specs.declared.stamp.Stamp.{Stamp}
use Rattle.cds_stamps.specs.Numbers.{root_dir}
use Rattle.house_directory.specs.declared.states.DirState.{DirState}
use Rattle.house_directory.specs.declared.states.DirState.TheVariants as dir
use Rattle.house_directory.specs.declared.states.Held.{Held}
use Rattle.house_directory.specs.ModelReplicas.{StandsHeld, StandsSlot}
use Rattle.directory.specs.Histories.{Mark}
use Rattle.directory.specs.Shown.{shown_of_name, shown_in}
use Rattle.purge_rule.specs.declared.replica.Replica as declared
use Rattle.purge_rule.specs.Replicas.{replica_of}
use Rattle.cell_model.specs.Cells as model
use Rattle.cell_model.specs.Holdings.{NumbersHold}
use Rattle.cell_model.specs.Reached.{IsReached}
use Rattle.cell_model.specs.Sets.{has}
use Rattle.cds_cell.specs.declared.cell.Cell.{Cell}
use Rattle.cds_cell.specs.declared.console.Listing.{Listing}
use Rattle.cds_cell.specs.declared.house.CellHouse.{CellHouse}
use Rattle.cds_cell.specs.declared.house.HouseState.{HouseState}
use Rattle.cds_cell.specs.declared.house.HouseState.TheVariants as state
use Rattle.cds_cell.specs.CellHouses.{StandsState}
use Rattle.cds_cell.specs.Readings.{pointer_to, reader_of, cell_reader, root_pointer, slot_view, view_of, views_of}
use Rattle.cds_cell.specs.ModelCells.{MaybeStandsHouse, Stands, StandsListing, directory_of, house_of}
use Rattle.cds_cell.proofs.Houses.{has_number}
use Rattle.cds_cell.specs.Telling.{dir_view, first_pointer, held_view, state_view, program_reader, told_views}

module _ (numbers : (g : model.Cell) → IsReached g → NumbersHold g)
    (seen : (h : List Mark) (t : Option Stamp) (n : List ℕ) → shown_in (replica_of h t).table n ≡ shown_of_name h n) where
  -- ---- what a house shows

  held_alike : (me floor : ℕ) (h : Held) (r : model.Replica) → StandsHeld me floor h r → held_view h ≡ view_of r
  held_alike me floor h r stands i = record {
    members = sym stands.looks.members i;
    shows = λ n. (ap (λ (x : declared.Replica). shown_in x.table n) stands.replica ∙ seen r.history r.all_up_to n) i;
  }

  slot_alike : (me floor : ℕ) (o : Option DirState) (s : model.Slot) → StandsSlot me floor o s → dir_view o ≡ slot_view s
  slot_alike me floor None model.Absent stands = refl
  slot_alike me floor None (model.Gone k) stands = elim stands [ ]
  slot_alike me floor None (model.Held r) stands = elim stands [ ]
  slot_alike me floor (Some (dir.Gone e)) model.Absent stands = elim stands [ ]
  slot_alike me floor (Some (dir.Gone e)) (model.Gone k) stands = refl
  slot_alike me floor (Some (dir.Gone e)) (model.Held r) stands = elim stands [ ]
  slot_alike me floor (Some (dir.Held h)) model.Absent stands = elim stands [ ]
  slot_alike me floor (Some (dir.Held h)) (model.Gone k) stands = elim stands [ ]
  slot_alike me floor (Some (dir.Held h)) (model.Held r) stands = ap Some (held_alike me floor h r stands)

  module _ (c : Cell) (g : model.Cell) (s : Stands c g) where
    views_alike : (d x : ℕ) → told_views c d x ≡ views_of g d x
    views_alike d x = by_house (house_of c.houses.items x) refl (s.stands.houses x)
      where
        by_state : (h : CellHouse) (t : HouseState) → StandsState h.house t (g.house x) → state_view (record { 0 = d }) t ≡ views_of g d x
        by_state h (state.Up home) stands =
            rw stands.0 (slot_alike home.house.0 home.floor.time (get home.dirs (record { 0 = d })) ((g.house x).slots d) (stands.1.stands.slots d))
        by_state h (state.Down octets) stands = rw stands.0 refl

        by_house : (o : Option CellHouse) → house_of c.houses.items x ≡ o → MaybeStandsHouse o (g.house x)
            → option_and_then (state_view (record { 0 = d })) (option_map (λ h. h.state) o) ≡ views_of g d x
        by_house None is stands =
            let unmade : has x g.made ≡ false = ap (has x) s.stands.made ∙ (has_number c.houses.items x ∙ ap is_some is) in
            rw ((numbers g s.reached).unmade x unmade) refl
        by_house (Some h) is stands = by_state h h.state stands.state

    root_alike : (ls : List Listing) → StandsListing (directory_of ls 1) g 1 → first_pointer ls ≡ root_pointer g
    root_alike [] top = rw top refl
    root_alike (l ∷ ls) known =
        let there : (g.top 1 == 0) ≡ false = grind (arith, nat_tests, known.0, known.1) in
        rw there (ap (λ ms. Some (pointer_to root_dir ms)) (sym known.2))

    -- what the program tells a reader is what the model tells it
    pub told_is_reading : (prefer : Option ℕ) (high : Bool) → program_reader c prefer high ≡ cell_reader g prefer high
    told_is_reading prefer high i = reader_of (root_alike c.directories.items (s.stands.directories 1) i) (λ d x. views_alike d x i) prefer high

-- What a cell of the model shows: no objects but those of a finite list.
use Rattle.std.proofs.Common.{◌≡◌, ◌≢◌, ℕ, zero, suc, ◌+◌, ◌<◌, ◌≤◌, List, [], ◌∷◌, Bool, true, false, refl, sym, ap, ◌∙◌, subst, arith, ⊎_elim}
use Rattle.std.specs.Prelude.{Option, Some, None, is_some, if◌then◌else◌, ◌==◌, ◌||◌, nat_lt}
use Rattle.std.specs.List.{Contains, flat_map, range_with_len}
use Rattle.std.proofs.lemmas.Bool.Decides.{nat_tests}
use Rattle.cds_stamps.proofs.ListMembers.{Contains-flat_map, Contains-head, Contains-tail, Contains-map}
use Rattle.directory.specs.Histories.{Birth, name_in}
use Rattle.directory.specs.Shown.{Shown, shown_of_name}
use Rattle.cell_model.specs.Cells.{Cell, Replica, Slot, Absent, Gone, Held}
use Rattle.cell_model.specs.Commands.{Command}
use Rattle.cell_model.specs.Sets.{In, has}
use Rattle.cell_model.specs.Steps.{replay, accepted_updates}
use Rattle.cell_model.proofs.Bounds.{held_low}
use Rattle.cell_model.proofs.Facts.{view}
use Rattle.cell_model.proofs.Marks.{shown_birth}
use Rattle.cell_model.proofs.NeverComes.{reaching_last}
use Rattle.cell_model.proofs.Passages.{Reaching}
use Rattle.cell_model.proofs.Runs.{roll_of}
use Rattle.cell_model.proofs.Wholes.{Plain, up_made, run_onward, empty_plain}
use Rattle.cell_model.specs.Cells.{empty_cell}
use Rattle.resolver.specs.Readers.{Object, ShowsOnly, object_found}
use Rattle.cds_cell.specs.Asking.{Asked, View, house_to_ask}
use Rattle.cds_cell.specs.AskingProofs.{asked_shows, shown_object}
use Rattle.cds_cell.specs.Readings.{sight_at, slot_view, view_of, views_of, cell_reader, objects_in, objects_of}

-- ---- lists

Contains-from_In : {A : Type 0} (x : A) (xs : List A) → In x xs → Contains xs x
Contains-from_In x [] i = elim i [ ]
Contains-from_In x (y ∷ ys) i =
    ⊎_elim (λ is. subst (λ z. Contains (y ∷ ys) z) (sym is) (Contains-head y ys)) (λ later. Contains-tail y ys x (Contains-from_In x ys later)) i

Contains-from_has : (x : ℕ) (xs : List ℕ) → has x xs ≡ true → Contains xs x
Contains-from_has x [] h = cc
Contains-from_has x (y ∷ ys) h = by_test (x == y) refl (Contains-from_has x ys) h
  where
    by_test : (b : Bool) → (x == y) ≡ b → (has x ys ≡ true → Contains ys x) → (b || has x ys) ≡ true → Contains (y ∷ ys) x
    by_test true on rest h = let is : y ≡ x = grind (arith, nat_tests, on) in subst (λ z. Contains (y ∷ ys) z) is (Contains-head y ys)
    by_test false off rest h = Contains-tail y ys x (rest h)

Contains-range : (a n d : ℕ) → a ≤ d → d < a + n → Contains (range_with_len a n) d
Contains-range a zero d low high = absurd (omega (arith, low, high))
Contains-range a (suc n) d low high = by_test (a == d) refl (Contains-range (a + 1) n d)
  where
    by_test : (b : Bool) → (a == d) ≡ b → (a + 1 ≤ d → d < a + 1 + n → Contains (range_with_len (a + 1) n) d) → Contains (a ∷ range_with_len (a + 1) n) d
    by_test true on rest = let is : a ≡ d = grind (arith, nat_tests, on) in
        subst (λ z. Contains (a ∷ range_with_len (a + 1) n) z) is (Contains-head a (range_with_len (a + 1) n))
    by_test false off rest =
        let apart : a ≢ d = grind (arith, nat_tests, off) in
        Contains-tail a (range_with_len (a + 1) n) d (rest (omega (arith, low, apart)) (omega (arith, high)))

-- ---- who answers

-- a house that shows something is up, and holds a replica of which that shows
record Shows (g : Cell) (d x : ℕ) (v : View) : Type 0 where
  replica : Replica
  up : (g.house x).up ≡ true
  held : (g.house x).slots d ≡ Held replica
  seen : view_of replica ≡ v

shows_at : (g : Cell) (d x : ℕ) (v : View) → views_of g d x ≡ Some v → Shows g d x v
shows_at g d x v is = by_up ((g.house x).up) refl is
  where
    by_up : (b : Bool) → (g.house x).up ≡ b → (if b then slot_view ((g.house x).slots d) else None) ≡ Some v → Shows g d x v
    by_up false off h = cc
    by_up true on h = by_slot ((g.house x).slots d) refl h
      where
        by_slot : (s : Slot) → (g.house x).slots d ≡ s → slot_view s ≡ Some v → Shows g d x v
        by_slot Absent at h = cc
        by_slot (Gone e) at h = cc
        by_slot (Held r) at h = record { replica = r; up = on; held = at; seen = cc }

-- ---- what shows

module _ (commands : List Command) where
  abbrev g : Cell
  g = replay commands

  plain : Plain g
  plain = (run_onward commands empty_cell empty_plain).plain

  module _ (d x : ℕ) (name : List ℕ) (v : View) (there : Shows g d x v) where
    sound : Reaching (roll_of d commands) (view d g) (accepted_updates commands)
    sound = reaching_last commands d

    top : 1 ≤ g.top d
    top =
        let low : 1 ≤ there.replica.epoch = held_low (roll_of d commands) (view d g) x there.replica sound.sound there.held in
        let high : there.replica.epoch ≤ g.top d = (sound.sound.held x there.replica there.held).top in
        omega (arith, low, high)

    known : Contains (range_with_len 0 g.next_dir) d
    known = by_test (nat_lt d g.next_dir) refl
      where
        by_test : (b : Bool) → nat_lt d g.next_dir ≡ b → Contains (range_with_len 0 g.next_dir) d
        by_test true on = Contains-range 0 g.next_dir d (omega arith) (grind (arith, nat_tests, on))
        by_test false off = let beyond : g.next_dir ≤ d = grind (arith, nat_tests, off) in absurd (omega (arith, top, plain.unknown d beyond))

    among : (e : Shown) → shown_of_name there.replica.history name ≡ Some e → Contains (objects_in x d ((g.house x).slots d)) (object_found d x name)
    among e shows =
        let mark = Contains-map (λ m. object_found d x (name_in m)) there.replica.history (Birth name e.kind e.birth)
        (Contains-from_In _ there.replica.history (shown_birth there.replica.history name e shows)) in
        subst (λ s. Contains (objects_in x d s) (object_found d x name)) (sym there.held) mark

    -- an object that a house shows is listed
    listed : (e : Shown) → shown_of_name there.replica.history name ≡ Some e → Contains (objects_of g) (object_found d x name)
    listed e shows =
        Contains-flat_map (λ y. flat_map (λ k. objects_in y k ((g.house y).slots k)) (range_with_len 0 g.next_dir)) g.made x _
        (Contains-from_has x g.made (up_made g x plain there.up))
        (Contains-flat_map (λ k. objects_in x k ((g.house x).slots k)) (range_with_len 0 g.next_dir) d _ known (among e shows))

    listed_shown : (o : Option Shown) → shown_of_name there.replica.history name ≡ o → is_some o ≡ true → Contains (objects_of g) (object_found d x name)
    listed_shown None none h = cc
    listed_shown (Some e) shows h = listed e shows

    -- the same, where something shows
    listed_view : is_some (v.shows name) ≡ true → Contains (objects_of g) (object_found d x name)
    listed_view h = listed_shown (shown_of_name there.replica.history name) refl (ap (λ (w : View). is_some (w.shows name)) there.seen ∙ h)

  -- each object that a cell of a run shows is listed
  pub reading_shows_only : (prefer : Option ℕ) (high : Bool) → ShowsOnly (cell_reader g prefer high) (objects_of g)
  reading_shows_only prefer high at house name h = by_asked (house_to_ask (views_of g) at.dir prefer high (at.master ∷ at.others)) refl h
    where
      by_asked : (o : Option Asked) → house_to_ask (views_of g) at.dir prefer high (at.master ∷ at.others) ≡ o → sight_at name o ≡ Object house
          → Contains (objects_of g) (object_found at.dir house name)
      by_asked None is h = cc
      by_asked (Some a) is h =
          let shows = shown_object a.house house (a.view.shows name) h in
          subst (λ x. Contains (objects_of g) (object_found at.dir x name)) shows.0
          (listed_view at.dir a.house name a.view
          (shows_at g at.dir a.house a.view (asked_shows (views_of g) at.dir prefer high (at.master ∷ at.others) a is)) shows.1)

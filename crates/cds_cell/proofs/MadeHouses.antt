-- Houses that are made, and clocks that are set.
use Rattle.std.proofs.Common.{Global, ◌≡◌, ◌≢◌, ℕ, ◌+◌, List, [], ◌∷◌, ◌++◌, Bool, true, false, subst, refl, sym, ◌∙◌, ap, arith}
use Rattle.std.specs.Prelude.{Some, None, max, length, if◌then◌else◌, ◌==◌, ◌||◌, slice_get, slice_set}
use Rattle.std.specs.FinMap.{get-empty}
use Rattle.std.specs.FinMap as map
use Rattle.std.specs.List.{list_any}
use Rattle.std.specs.declared.vec.Vec.{Vec}
use Rattle.std.proofs.lemmas.Bool.Decides.{nat_tests}
use Rattle.cds_stamps.specs.declared.numbers.HouseNo.{HouseNo}
use Rattle.cell_model.specs.Cells as model
use Rattle.cell_model.specs.Commands as command
use Rattle.cell_model.specs.Sets.{has}
use Rattle.cell_model.specs.Steps.{effect, is_taken, new_house, set_clock}
use Rattle.cell_model.proofs.Views.{put_other, put_same}
use Rattle.script_answers.specs.declared.answer.Answer.TheVariants as answer
use Rattle.clearinghouse.specs.declared.house.Clearinghouse.{Clearinghouse}
use Rattle.house_directory.specs.declared.states.DirState.TheVariants as state
use Rattle.house_directory.specs.declared.states.Held.{Held}
use Rattle.clearinghouse.specs.LawfulHouses.{IsLawful}
use Rattle.house_directory.specs.ModelReplicas.{StandsSlot}
use Rattle.clearinghouse.specs.ModelHouses.{StandsHouse}
use Rattle.cds_cell.specs.declared.cell.Cell.{Cell}
use Rattle.cds_cell.specs.declared.console.Listing.{Listing}
use Rattle.cds_cell.specs.declared.house.CellHouse.{CellHouse}
use Rattle.cds_cell.specs.declared.house.HouseState.{HouseState}
use Rattle.cds_cell.specs.declared.house.HouseState.TheVariants as house_state
use Rattle.cds_cell.specs.CellHouses.{StandsAtHouse, StandsState, StandsUp}
use Rattle.cds_cell.specs.PrivateSteps.{IsPlaceOf, IsStepAs}
use Rattle.cds_cell.specs.ModelCells.{MaybeStandsHouse, Stands, directory_of, house_of}
use Rattle.cds_cell.proofs.Bags.{same_bag}
use Rattle.cds_cell.proofs.HouseActs.{house_stands, listing_kept, placed_stands}
use Rattle.cds_cell.proofs.Houses.{house_added, house_numbers, house_of_place, not_there, numbers_added, once_added}

-- ---- a house more

-- the house that a command makes
abbrev fresh : ℕ → model.House
fresh node = record { node = node; clock = 0; floor = 0; up = true; slots = λ d. model.Absent }

-- a clearinghouse without directories
abbrev pub bare : HouseNo → ℕ → Clearinghouse
bare x node = record { house = x; node = node; floor = record { time = 0 }; dirs = map.empty; spent = false }

bare_stands : (x : HouseNo) (node : ℕ) → StandsHouse (bare x node) (fresh node)
bare_stands x node = record { node = refl; floor = refl; slots = λ d. subst (λ o. StandsSlot x.0 0 o model.Absent) (sym (get-empty _ (record { 0 = d }))) tt }

bare_lawful : (x : HouseNo) (node : ℕ) → IsLawful (bare x node)
bare_lawful x node = λ dir h is. absurd (none h (sym (get-empty _ dir) ∙ is))
  where
    none : (h : Held) → None ≡ Some (state.Held h) → ⊥
    none h is = absurd (cc)

-- a house without directories, which is up with clock 0, stands for the new house of the model
fresh_stands : (w : CellHouse) → w.clock ≡ 0 → w.state ≡ house_state.Up (bare w.house w.node) → StandsAtHouse w (fresh w.node)
fresh_stands w clock is = record {
  node = refl;
  clock = sym clock;
  state = subst (λ s. StandsState w.house s (fresh w.node)) (sym is)
      (refl, record { number = refl; stands = bare_stands w.house w.node; lawful = bare_lawful w.house w.node; usable = refl });
}

-- a number that is not taken is no house's
not_made : (g : model.Cell) (x node : ℕ) (xs : List ℕ) → list_any (λ y. (y == x) || ((g.house y).node == node)) xs ≡ false → has x xs ≡ false
not_made g x node [] free = refl
not_made g x node (y ∷ ys) free =
    let rest : list_any (λ y. (y == x) || ((g.house y).node == node)) ys ≡ false = grind (arith, nat_tests, free) in
    let behind = not_made g x node ys rest in
    grind (arith, nat_tests, free, behind)

module _ (c c' : Cell) (g : model.Cell) (w : CellHouse) (s : Stands c g) (free : is_taken g w.house.0 w.node ≡ false) (clock : w.clock ≡ 0)
    (is : w.state ≡ house_state.Up (bare w.house w.node)) (houses : c'.houses.items ≡ c.houses.items ++ w ∷ []) (directories : c'.directories ≡ c.directories)
    (bag : c'.bag ≡ c.bag) (spent : c'.spent ≡ c.spent) where
  abbrev x : ℕ
  x = w.house.0

  abbrev g' : model.Cell
  g' = new_house g x w.node

  unmade : has x g.made ≡ false
  unmade = not_made g x w.node g.made free

  added : (y : ℕ) (b : Bool) → (x == y) ≡ b → MaybeStandsHouse (if b then Some w else house_of c.houses.items y) (g'.house y)
  added y true on =
      let same : x ≡ y = grind (arith, nat_tests, on) in
      subst (λ y. StandsAtHouse w (g'.house y)) same (subst (StandsAtHouse w) (sym (put_same g.house x (fresh w.node))) (fresh_stands w clock is))
  added y false off =
      let apart : y ≢ x = grind (arith, nat_tests, off) in
      rw (put_other g.house x (fresh w.node) y apart) (s.stands.houses y)

  -- a house more, in both
  pub made_comes : IsStepAs answer.Done c' (effect g (command.House x w.node))
  made_comes = record {
    answer = refl;
    stands = record {
      made = ap (λ xs. xs ++ x ∷ []) s.stands.made ∙ sym (numbers_added c.houses.items w) ∙ ap house_numbers (sym houses);
      once = once_added g.made x s.stands.once unmade;
      houses = λ y. rw (houses, house_added c.houses.items w (not_there c.houses.items x (ap (has x) (sym s.stands.made) ∙ unmade)) y)
          (added y (x == y) refl);
      directories = λ d. rw directories (listing_kept (directory_of c.directories.items d) g g' d refl refl (s.stands.directories d));
      next = s.stands.next ∙ ap (λ (v : Vec Listing Global). max 2 (length v.items + 1)) (sym directories);
      bag = rw bag (same_bag c.bag g g' refl refl s.stands.bag);
      usable = spent ∙ s.stands.usable;
    };
  }

-- ---- a clock is set

-- a house at another time is the same but for that
timed_stands : (w v : CellHouse) (now : model.House) → v.house ≡ w.house → v.node ≡ w.node → v.state ≡ w.state → StandsAtHouse w now
    → StandsAtHouse v (record now { clock = v.clock })
timed_stands w v now house node same stands = record {
  node = stands.node ∙ sym node;
  clock = refl;
  state = subst (λ x. StandsState x v.state (record now { clock = v.clock })) (sym house)
      (subst (λ s. StandsState w.house s (record now { clock = v.clock })) (sym same) (at w.state stands.state));
}
  where
    up : (c : Clearinghouse) → StandsUp w.house c now → StandsUp w.house c (record now { clock = v.clock })
    up c s = record {
      number = s.number;
      stands = record { node = s.stands.node; floor = s.stands.floor; slots = s.stands.slots };
      lawful = s.lawful;
      usable = s.usable;
    }

    at : (s : HouseState) → StandsState w.house s now → StandsState w.house s (record now { clock = v.clock })
    at (house_state.Up c) known = (known.0, up c known.1)
    at (house_state.Down octets) known = (known.0, (known.1.0, known.1.1, up known.1.0 known.1.2))

-- a clock is set, in both
pub clock_comes : (c c' : Cell) (g : model.Cell) (x at : ℕ) (was is : CellHouse) → Stands c g → IsPlaceOf c.houses.items x at
    → slice_get c.houses.items at ≡ Some was → is.house ≡ was.house → is.node ≡ was.node → is.state ≡ was.state
    → c'.houses.items ≡ slice_set c.houses.items at is → c'.directories ≡ c.directories → c'.bag ≡ c.bag → c'.spent ≡ c.spent
    → IsStepAs answer.Done c' (effect g (command.Clock x is.clock))
clock_comes c c' g x at was is s place there house node same houses directories bag spent =
    let g' : model.Cell = set_clock g x is.clock in
    let now : model.House = record (g.house x) { clock = is.clock } in record {
      answer = refl;
      stands = placed_stands c c' g g' x at is s.stands place
          (ap (λ (h : HouseNo). h.0) house ∙ (house_of_place c.houses.items x at was place there).1)
          houses (record { directories = directories; spent = spent })
          (subst (StandsAtHouse is) (sym (put_same g.house x now))
          (timed_stands was is (g.house x) house node same (house_stands c g x at was s.stands place there)))
          (λ y apart. put_other g.house x now y apart)
          (record { made = refl; lost = refl; top = refl; present = refl; next_dir = refl })
          (rw bag (same_bag c.bag g g' refl refl s.stands.bag));
    }

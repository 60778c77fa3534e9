-- A cell that is taken back to a mark before a command of one house stands for the one in which
-- that house crashed instead.
use Rattle.std.proofs.Common.{◌≡◌, ◌≢◌, ℕ, ◌+◌, Bool, true, false, List, [], ◌∷◌, length, refl, sym, ap, subst, ◌∙◌, arith}
use Rattle.std.specs.Prelude.{Option, Some, None, max, is_some, slice_get, slice_set, ◌==◌, if◌then◌else◌}
use Rattle.std.proofs.lemmas.Bool.Decides.{nat_tests}
use Rattle.cell_model.specs.Cells as model
use Rattle.cell_model.specs.Commands as command
use Rattle.cell_model.specs.Commands.{Command}
use Rattle.cell_model.specs.Sets.{has}
use Rattle.cell_model.specs.Steps.{crash, outcome, stands_twice}
use Rattle.cell_model.specs.Turns.{crashed_house}
use Rattle.cell_model.proofs.AtHouses.{Rest}
use Rattle.cell_model.proofs.Lists.{append_nil}
use Rattle.cell_model.proofs.Standing.{reached_lem}
use Rattle.cell_model.proofs.Views.{put_other, put_same}
use Rattle.clearinghouse.specs.declared.house.Clearinghouse.{Clearinghouse}
use Rattle.clearinghouse.proofs.Restarting.{crash_stands, restarted_lawful}
use Rattle.cds_cell.specs.declared.cell.Cell.{Cell}
use Rattle.cds_cell.specs.declared.console.Listing.{Listing}
use Rattle.cds_cell.specs.declared.house.CellHouse.{CellHouse}
use Rattle.cds_cell.specs.declared.house.HouseState.{HouseState}
use Rattle.cds_cell.specs.declared.house.HouseState.TheVariants as state
use Rattle.cds_cell.specs.declared.marks.Mark.{Mark}
use Rattle.cds_cell.specs.CellHouses.{StandsAtHouse, StandsState}
use Rattle.cds_cell.specs.CommandImages.{actors}
use Rattle.cds_cell.specs.Marks.{IsImageAt, IsImageOf, IsMark}
use Rattle.cds_cell.specs.PrivateMarks.{TakesBack, listed_again}
use Rattle.cds_cell.specs.PrivateSteps.{IsPlaceOf}
use Rattle.cds_cell.specs.ModelCells.{MaybeStandsHouse, Stands, StandsAs, StandsListing, directory_of, house_of}
use Rattle.cds_cell.proofs.ActSteps.{missing_where}
use Rattle.cds_cell.proofs.Bags.{back_stands, same_bag}
use Rattle.cds_cell.proofs.HouseActs.{house_stands, listing_kept}
use Rattle.cds_cell.proofs.HouseCalls.{crashed_stands}
use Rattle.cds_cell.proofs.Houses.{has_number, house_changed, house_numbers, house_of_place, numbers_kept}
use Rattle.cds_cell.proofs.KeptImages.{keeps_image}
use Rattle.cds_cell.proofs.Listings.{again_length, lists_back, no_fewer}
use Rattle.cds_cell.proofs.LoneSteps.{ActsAlone, outcome_alone}
use Rattle.cds_cell.proofs.RecordedLaws.{found_number}

-- a house of which the image was kept
made_at : (c : Cell) (g : model.Cell) (x : ℕ) (octets : List ℕ) → Stands c g → IsImageAt octets (house_of c.houses.items x) → has x g.made ≡ true
made_at c g x octets s image = ap (has x) s.stands.made ∙ has_number c.houses.items x ∙ by (house_of c.houses.items x) image
  where
    by : (o : Option CellHouse) → IsImageAt octets o → is_some o ≡ true
    by None image = absurd image
    by (Some h) image = refl

-- the octets of the image of a house that is up are those of one that is down
kept_down : (h : CellHouse) (c : Clearinghouse) (octets : List ℕ) (now : model.House) → h.state ≡ state.Up c → StandsAtHouse h now → IsImageOf octets (state.Up c)
    → StandsState h.house (state.Down octets) (crashed_house now)
kept_down h c octets now is stands image =
    let up = (subst (λ s. StandsState h.house s now) is stands.state).1 in
    (crashed_stands h c octets now is stands (keeps_image c octets up.lawful image.0 (image.1 up.lawful)) (crash_stands c now up.stands)
    (restarted_lawful c up.lawful)).state

-- a house that crashes
crash_is : (g : model.Cell) (x : ℕ) → has x g.made ≡ true → (g.house x).up ≡ true → (outcome g (command.Crash x)).cell ≡ crash g x
crash_is g x made up = rw (made, up) refl

-- a house that is down does not
down_stays : (g : model.Cell) (x : ℕ) → has x g.made ≡ true → (g.house x).up ≡ false → (outcome g (command.Crash x)).cell ≡ g
down_stays g x made down = rw (made, down) refl

-- the house is still there
pub never_gone : (before old : Cell) (g : model.Cell) (k : Command) (x : ℕ) (mark : Mark) → Stands before g → IsMark mark before x k → actors g k ≡ x ∷ []
    → Stands old (outcome g k).cell → house_of old.houses.items x ≡ None → ⊥
never_gone before old g k x mark s is acts now gone =
    let made : has x g.made ≡ true = made_at before g x mark.image.items s is.image in
    let still : has x (outcome g k).cell.made ≡ true = ap (has x) (outcome_alone g x k acts made).made ∙ made in
    let missing : has x (outcome g k).cell.made ≡ false = missing_where old (outcome g k).cell x now.stands gone in
    cc (still, missing)

module _ (before old new : Cell) (g : model.Cell) (k : Command) (x : ℕ) (mark : Mark) (s : Stands before g) (is : IsMark mark before x k)
    (acts : actors g k ≡ x ∷ []) (now : Stands old (outcome g k).cell) (at : ℕ) (h : CellHouse) (place : IsPlaceOf old.houses.items x at)
    (here : slice_get old.houses.items at ≡ Some h)
    (houses : new.houses.items ≡ slice_set old.houses.items at (record h { state = state.Down mark.image.items }))
    (lists : new.directories.items ≡ listed_again mark.directories mark.replaced old.directories.items) (bag : TakesBack old.bag new.bag mark.posted)
    (spent : new.spent ≡ old.spent) where
  abbrev o : model.Cell
  o = (outcome g k).cell

  abbrev down : CellHouse
  down = record h { state = state.Down mark.image.items }

  made : has x g.made ≡ true
  made = made_at before g x mark.image.items s is.image

  alone : ActsAlone g o x k
  alone = outcome_alone g x k acts made

  number : h.house.0 ≡ x
  number = (house_of_place old.houses.items x at h place here).1

  stood : StandsAtHouse h (o.house x)
  stood = house_stands old o x at h now.stands place here

  -- the console lists what it did
  listed : new.directories.items ≡ listed_again (length before.directories.items) mark.replaced old.directories.items
  listed = lists ∙ ap (λ n. listed_again n mark.replaced old.directories.items) is.directories

  count : length before.directories.items ≡ length new.directories.items
  count =
      let long = again_length (length before.directories.items) mark.replaced old.directories.items in
      let many = no_fewer before old g o k s.stands.directories now.stands.directories alone.listed in
      let same : length new.directories.items ≡ length (listed_again (length before.directories.items) mark.replaced old.directories.items) = ap length listed in
      omega (arith, long, many, same)

  -- so the cell stands for each in which that house alone is another, and down
  taken : (g' : model.Cell) → Rest g g' → g'.bag ≡ g.bag → ((y : ℕ) → y ≢ x → g'.house y ≡ g.house y) → StandsAtHouse down (g'.house x) → StandsAs new g'
  taken g' rest posted others back = record {
    made = rest.made ∙ sym alone.made ∙ now.stands.made ∙ sym (numbers_kept old.houses.items x at down number place) ∙ ap house_numbers (sym houses);
    once = ap stands_twice rest.made ∙ s.stands.once;
    houses = λ y. rw (houses, house_changed old.houses.items x at down number place y) (house_then y (down.house.0 == y) refl);
    directories = λ d. subst (λ (ls : List Listing). StandsListing (directory_of ls d) g' d) (sym listed)
        (listing_kept (directory_of (listed_again (length before.directories.items) mark.replaced old.directories.items) d) g g' d
        (ap (λ f. f d) rest.top) (ap (λ f. f d) rest.present)
        (lists_back before old g o k s.stands.directories now.stands.directories alone.listed mark.replaced is.replaced d));
    next = rest.next_dir ∙ s.stands.next ∙ ap (λ n. max 2 (n + 1)) count;
    bag = same_bag new.bag g g' posted rest.lost
        (back_stands old.bag new.bag g o alone.posts mark.posted (is.posted ∙ s.stands.bag.posted) bag now.stands.bag alone.bag alone.lost s.stands.bag.lost);
    usable = spent ∙ now.stands.usable;
  }
    where
      house_then : (y : ℕ) (b : Bool) → (down.house.0 == y) ≡ b → MaybeStandsHouse (if b then Some down else house_of old.houses.items y) (g'.house y)
      house_then y true on = let same : x ≡ y = grind (arith, nat_tests, on, number) in subst (λ y. StandsAtHouse down (g'.house y)) same back
      house_then y false off =
          let apart : y ≢ x = grind (arith, nat_tests, off, number) in
          subst (λ n. MaybeStandsHouse (house_of old.houses.items y) n) (alone.others y apart ∙ sym (others y apart)) (now.stands.houses y)

  -- a house that is down with its image
  is_down : (n : model.House) → n.node ≡ (g.house x).node → n.clock ≡ (g.house x).clock → (b : CellHouse) → b.house.0 ≡ x
      → StandsState b.house (state.Down mark.image.items) n → StandsAtHouse down n
  is_down n node clock b own stands =
      let same : b.house.0 ≡ h.house.0 = own ∙ sym number in
      record {
        node = node ∙ sym alone.same.node ∙ stood.node;
        clock = clock ∙ sym alone.same.clock ∙ stood.clock;
        state = subst (λ (y : ℕ). StandsState (record { 0 = y }) (state.Down mark.image.items) n) same stands;
      }

  by_state : (b : CellHouse) → b.house.0 ≡ x → StandsAtHouse b (g.house x) → (t : HouseState) → b.state ≡ t → IsImageOf mark.image.items t
      → StandsState b.house t (g.house x) → StandsAs new (outcome g (command.Crash x)).cell
  by_state b own stands (state.Up c) up image known =
      let now : model.House = crashed_house (g.house x) in
      subst (StandsAs new) (sym (crash_is g x made known.0))
      (taken (crash g x) (record { made = refl; lost = refl; top = refl; present = refl; next_dir = refl }) (append_nil g.bag) (put_other g.house x now)
      (subst (StandsAtHouse down) (sym (put_same g.house x now)) (is_down now refl refl b own (kept_down b c mark.image.items (g.house x) up stands image))))
  by_state b own stands (state.Down octets) up image known =
      subst (StandsAs new) (sym (down_stays g x made known.0))
      (taken g (record { made = refl; lost = refl; top = refl; present = refl; next_dir = refl }) refl (λ y apart. refl)
      (is_down (g.house x) refl refl b own (subst (λ (i : List ℕ). StandsState b.house (state.Down i) (g.house x)) (sym image) known)))

  by_house : (q : Option CellHouse) → house_of before.houses.items x ≡ q → IsImageAt mark.image.items q → MaybeStandsHouse q (g.house x)
      → StandsAs new (outcome g (command.Crash x)).cell
  by_house None there image stands = absurd image
  by_house (Some b) there image stands =
      by_state b (found_number before.houses.items x b there) stands b.state refl image stands.state

  -- the house is down with the image that it had, and all else is as it was
  pub taken_back : Stands new (outcome g (command.Crash x)).cell
  taken_back = record {
    reached = reached_lem.after g (command.Crash x) s.reached;
    stands = by_house (house_of before.houses.items x) refl is.image (s.stands.houses x);
  }

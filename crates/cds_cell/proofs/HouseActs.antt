-- What the act of a house leaves of its cell: it stands for the cell of the model after the house's
-- step.
use Rattle.std.proofs.Common.{Global, ◌≡◌, ◌≢◌, ℕ, zero, suc, ◌+◌, ◌<◌, ◌≤◌, List, [], ◌∷◌, ◌++◌}
use Rattle.std.proofs.Common.{Bool, true, false, length, subst, refl, sym, ◌∙◌, ap, arith}
use Rattle.std.specs.Prelude.{Option, Some, None, Result, Ok, Err, OnErr, max, if◌then◌else◌, ◌==◌, slice_get, slice_set}
use Rattle.std.specs.declared.vec.Vec.{Vec}
use Rattle.std.proofs.Math.ListN.{get_or, length-set}
use Rattle.std.proofs.lemmas.Bool.Decides.{nat_tests}
use Rattle.std.proofs.lemmas.Option.{slice_get_read}
use Rattle.cds_stamps.specs.declared.numbers.DirId.{DirId}
use Rattle.cds_stamps.specs.declared.numbers.EpochNo.{EpochNo}
use Rattle.cds_stamps.specs.declared.numbers.HouseNo.{HouseNo}
use Rattle.cds_stamps.specs.Members.{Member, members_of}
use Rattle.cell_model.specs.Cells as model
use Rattle.cell_model.specs.Commands as command
use Rattle.cell_model.specs.Steps.{at_house, move_house, note_epoch, serials_of, stands_twice}
use Rattle.cell_model.specs.Turns.{HouseStep, Stays, Turns}
use Rattle.cell_model.proofs.AtHouses.{Rest, at_house-bag, at_house-here, at_house-rest, at_house-there, house_after, posts_of}
use Rattle.cell_model.proofs.Lists.{append_nil}
use Rattle.cell_model.proofs.Views.{put_other, put_same}
use Rattle.house_directory.specs.declared.epochs.EpochRefusal.{EpochRefusal}
use Rattle.house_directory.specs.declared.outgoing.Outgoing.{Outgoing}
use Rattle.house_directory.specs.declared.outgoing.Outgoing.TheVariants as out
use Rattle.house_directory.specs.declared.posted.Posted.{Posted}
use Rattle.house_directory.specs.declared.taking.Taken.{Taken}
use Rattle.house_directory.specs.declared.taking.Taken.TheVariants as taken
use Rattle.house_directory.specs.HouseMessages.{StandEach}
use Rattle.house_directory.specs.DirectorySteps.{UnlessTaken}
use Rattle.cds_cell.specs.declared.bag.Bag.{Bag}
use Rattle.cds_cell.specs.declared.cell.Cell.{Cell}
use Rattle.cds_cell.specs.declared.console.Listing.{Listing}
use Rattle.cds_cell.specs.declared.house.CellHouse.{CellHouse}
use Rattle.cds_cell.specs.declared.house.HouseState.{HouseState}
use Rattle.cds_cell.specs.declared.house.HouseState.TheVariants as state
use Rattle.cds_cell.specs.Bags.{StandsBag}
use Rattle.cds_cell.specs.CellHouses.{StandsAtHouse}
use Rattle.cds_cell.specs.PrivateActs.{ActsAt, ChangesAt, KeepsRest, Posts}
use Rattle.cds_cell.specs.PrivateHouses.{Asks, IsSameHouse, epoch_posted_by, leaves_by, posted_by}
use Rattle.cds_cell.specs.PrivateSteps.{IsPlaceOf}
use Rattle.cds_cell.specs.ModelCells.{MaybeStandsHouse, StandsAs, StandsListing, directory_of, house_of}
use Rattle.cds_cell.proofs.Bags.{posted_both, posted_none, posted_serials, posted_stands, same_bag}
use Rattle.cds_cell.proofs.Houses.{house_changed, house_numbers, house_of_place, numbers_kept, place_within}
use Rattle.cds_cell.proofs.Vecs.{written}

-- ---- what the console knows

-- a listing is where the console of the model knows the same of its directory
pub listing_kept : (o : Option Listing) (g g' : model.Cell) (d : ℕ) → g'.top d ≡ g.top d → g'.present d ≡ g.present d → StandsListing o g d
    → StandsListing o g' d
listing_kept None g g' d top present stands = top ∙ stands
listing_kept (Some l) g g' d top present stands = (stands.0, top ∙ stands.1, present ∙ stands.2)

-- ---- a house changes

-- the cell stands for one of the model after another house is at its place in both, if its bag does
pub placed_stands : (c c' : Cell) (g g' : model.Cell) (x at : ℕ) (is : CellHouse) → StandsAs c g → IsPlaceOf c.houses.items x at → is.house.0 ≡ x
    → c'.houses.items ≡ slice_set c.houses.items at is → KeepsRest c c' → StandsAtHouse is (g'.house x) → ((y : ℕ) → y ≢ x → g'.house y ≡ g.house y)
    → Rest g g' → StandsBag c'.bag g' → StandsAs c' g'
placed_stands c c' g g' x at is s place number houses kept here there rest bag = record {
  made = rest.made ∙ s.made ∙ sym (numbers_kept c.houses.items x at is number place) ∙ ap house_numbers (sym houses);
  once = ap stands_twice rest.made ∙ s.once;
  houses = λ y. rw (houses, house_changed c.houses.items x at is number place y) (house_stands y (is.house.0 == y) refl);
  directories = λ d. rw kept.directories
      (listing_kept (directory_of c.directories.items d) g g' d (ap (λ f. f d) rest.top) (ap (λ f. f d) rest.present) (s.directories d));
  next = rest.next_dir ∙ s.next ∙ ap (λ ls. max 2 (length ls + 1)) (ap (λ (v : Vec Listing Global). v.items) (sym kept.directories));
  bag = bag;
  usable = kept.spent ∙ s.usable;
}
  where
    house_stands : (y : ℕ) (b : Bool) → (is.house.0 == y) ≡ b → MaybeStandsHouse (if b then Some is else house_of c.houses.items y) (g'.house y)
    house_stands y true on = let same : x ≡ y = grind (arith, nat_tests, on, number) in subst (λ y. StandsAtHouse is (g'.house y)) same here
    house_stands y false off =
        let apart : y ≢ x = grind (arith, nat_tests, off, number) in
        rw (there y apart) (s.houses y)

-- so it does after a change of one house in both
pub changed_stands : (c c' : Cell) (g g' : model.Cell) (x at : ℕ) (was is : CellHouse) → StandsAs c g → IsPlaceOf c.houses.items x at
    → ChangesAt c c' at was is → StandsAtHouse is (g'.house x) → ((y : ℕ) → y ≢ x → g'.house y ≡ g.house y) → Rest g g' → StandsBag c'.bag g' → StandsAs c' g'
changed_stands c c' g g' x at was is s place changes here there rest bag =
    placed_stands c c' g g' x at is s place
    (ap (λ (h : HouseNo). h.0) changes.same.house ∙ (house_of_place c.houses.items x at was place changes.was).1)
    changes.houses changes.rest here there rest bag

-- ---- the console notes an epoch

-- the listing of a directory after that of one is another
pub listing_changed : (ls : List Listing) (i j : ℕ) (l : Listing) → i < length ls → slice_get (slice_set ls i l) j ≡ (if j == i then Some l else slice_get ls j)
listing_changed [] i j l less = absurd (omega (arith, less))
listing_changed (k ∷ ls) zero zero l less = refl
listing_changed (k ∷ ls) zero (suc j) l less = let off : (suc j == zero) ≡ false = grind (arith, nat_tests) in rw off refl
listing_changed (k ∷ ls) (suc i) zero l less = let off : (zero == suc i) ≡ false = grind (arith, nat_tests) in rw off refl
listing_changed (k ∷ ls) (suc i) (suc j) l less =
    let within : i < length ls = omega (arith, less) in
    let same : (suc j == suc i) ≡ (j == i) = next_alike i j (j == i) refl in
    rw same (listing_changed ls i j l within)
  where
    next_alike : (i j : ℕ) (b : Bool) → (j == i) ≡ b → (suc j == suc i) ≡ b
    next_alike i j true on = grind (arith, nat_tests, on)
    next_alike i j false off = grind (arith, nat_tests, off)

-- all but the bag of a cell stands for that of one of the model which has the same houses, and of
-- which the console knows the same
pub rest_stands : (c c' : Cell) (g g' : model.Cell) → StandsAs c g → c'.houses ≡ c.houses → KeepsRest c c' → ((x : ℕ) → g'.house x ≡ g.house x)
    → Rest g g' → StandsBag c'.bag g' → StandsAs c' g'
rest_stands c c' g g' s houses kept same rest bag = record {
  made = rest.made ∙ s.made ∙ ap (λ (v : Vec CellHouse Global). house_numbers v.items) (sym houses);
  once = ap stands_twice rest.made ∙ s.once;
  houses = λ x. rw (houses, same x) (s.houses x);
  directories = λ d. rw kept.directories (listing_kept (directory_of c.directories.items d) g g' d (ap (λ f. f d) rest.top) (ap (λ f. f d) rest.present)
      (s.directories d));
  next = rest.next_dir ∙ s.next ∙ ap (λ (v : Vec Listing Global). max 2 (length v.items + 1)) (sym kept.directories);
  bag = bag;
  usable = kept.spent ∙ s.usable;
}

-- a cell that lost a message stands for that of the model, if its bag does
pub lost_elsewhere : (c d : Cell) (g : model.Cell) (n : ℕ) → StandsAs c g → d.houses ≡ c.houses → KeepsRest c d
    → StandsBag d.bag (record g { lost = n ∷ g.lost }) → StandsAs d (record g { lost = n ∷ g.lost })
lost_elsewhere c d g n s houses rest bag = record {
  made = s.made ∙ ap (λ (v : Vec CellHouse Global). house_numbers v.items) (sym houses);
  once = s.once;
  houses = λ x. rw houses (s.houses x);
  directories = λ e. rw rest.directories
      (listing_kept (directory_of c.directories.items e) g (record g { lost = n ∷ g.lost }) e refl refl (s.directories e));
  next = s.next ∙ ap (λ (v : Vec Listing Global). max 2 (length v.items + 1)) (sym rest.directories);
  bag = bag;
  usable = rest.spent ∙ s.usable;
}

-- the cell in which the console knows a directory's epoch and list, where the model's knows the
-- same
pub noted_stands : (c c' : Cell) (g : model.Cell) (d i k : ℕ) (ms : List Member) (l : Listing) → StandsAs c g → d ≡ i + 1 → i < length c.directories.items
    → c'.houses ≡ c.houses → c'.directories.items ≡ slice_set c.directories.items i l → c'.bag ≡ c.bag → c'.spent ≡ c.spent
    → 1 ≤ l.epoch.0 → l.epoch.0 ≡ k → members_of l.members ≡ ms → StandsAs c' (note_epoch g d k ms)
noted_stands c c' g d i k ms l s number within houses directories bag spent first epoch members = record {
  made = s.made ∙ ap (λ (v : Vec CellHouse Global). house_numbers v.items) (sym houses);
  once = s.once;
  houses = λ x. rw houses (s.houses x);
  directories = λ e. rw directories (known e (s.directories e));
  next = s.next ∙ ap (λ n. max 2 (n + 1)) (sym (ap length directories ∙ length-set c.directories.items i l));
  bag = same_bag c'.bag g (note_epoch g d k ms) refl refl (subst (λ b. StandsBag b g) (sym bag) s.bag);
  usable = spent ∙ s.usable;
}
  where
    here : (j : ℕ) → j ≡ i → StandsListing (Some l) (note_epoch g d k ms) (suc j)
    here j same =
        let is : (suc j == d) ≡ true = grind (arith, nat_tests, number, same) in
        (first, rw is (sym epoch), rw is (sym members))

    there : (e : ℕ) (o : Option Listing) → e ≢ d → StandsListing o g e → StandsListing o (note_epoch g d k ms) e
    there e o apart stands = listing_kept o g (note_epoch g d k ms) e (put_other g.top d k e apart) (put_other g.present d ms e apart) stands

    known : (e : ℕ) → StandsListing (directory_of c.directories.items e) g e
        → StandsListing (directory_of (slice_set c.directories.items i l) e) (note_epoch g d k ms) e
    known zero stands = there zero None (λ same. omega (arith, same, number)) stands
    known (suc j) stands = rw (listing_changed c.directories.items i j l within) (go (j == i) refl)
      where
        go : (b : Bool) → (j == i) ≡ b → StandsListing (if b then Some l else slice_get c.directories.items j) (note_epoch g d k ms) (suc j)
        go true on = here j (grind (arith, nat_tests, on))
        go false off =
            let apart : suc j ≢ d = grind (arith, nat_tests, off, number) in
            there (suc j) (slice_get c.directories.items j) apart stands

-- ---- a house acts

-- a cell after the step of a house, with what was answered and the serial numbers that were told
pub record Acted (c' : Cell) (g : model.Cell) (x : ℕ) (before after : List ℕ) (Answers : command.Answer → Type 0) (step : HouseStep) : Type 0 where
  pub stands : StandsAs c' (at_house g x step).cell
  pub answer : Answers (at_house g x step).answer
  pub told : after ≡ before ++ serials_of g (posts_of step)

-- a house of the cell stands for the house of the model
pub house_stands : (c : Cell) (g : model.Cell) (x at : ℕ) (h : CellHouse) → StandsAs c g → IsPlaceOf c.houses.items x at
    → slice_get c.houses.items at ≡ Some h → StandsAtHouse h (g.house x)
house_stands c g x at h s place is = subst (λ o. MaybeStandsHouse o (g.house x)) (house_of_place c.houses.items x at h place is).0 (s.houses x)

module _ (c c' : Cell) (g : model.Cell) (x at : ℕ) (before after : List ℕ) (Answers : command.Answer → Type 0) (step : ℕ → HouseStep)
    (s : StandsAs c g) (place : IsPlaceOf c.houses.items x at) (a : ActsAt c c' at before after Answers (g.house x) step) where
  after_step : (h : HouseStep) → StandsAtHouse a.is (house_after (g.house x) h) → StandEach a.posted (posts_of h) → Answers (at_house g x h).answer
      → Acted c' g x before after Answers h
  after_step h here each answer =
      let rest = at_house-rest g x h in
      let bag = at_house-bag g x h in
      record {
        stands = changed_stands c c' g (at_house g x h).cell x at a.was a.is s place a.changes (subst (StandsAtHouse a.is) (sym (at_house-here g x h)) here)
            (at_house-there g x h) rest
            (posted_stands c.bag c'.bag g (at_house g x h).cell before after a.posted (posts_of h) s.bag a.posts each bag rest.lost);
        answer = answer;
        told = posted_serials c.bag c'.bag g (at_house g x h).cell before after a.posted (posts_of h) s.bag a.posts each bag rest.lost;
      }

  by_step : (h : HouseStep) → StandsAtHouse a.was (g.house x) → Asks Answers h a.was a.is a.posted → Acted c' g x before after Answers h
  by_step (Stays answer) known asks =
      after_step (Stays answer) (subst (λ h. StandsAtHouse h (g.house x)) (sym asks.1) known) (rw asks.2 tt) asks.0
  by_step (Turns t) known asks = after_step (Turns t) asks.1.stands asks.1.each (asks.0 (serials_of g t.posts))

  -- a house that is up acts: the cell stands for the model's after the step of that house
  pub acted : (g.house x).up ≡ true → Acted c' g x before after Answers (step x)
  acted up =
      let there = house_of_place c.houses.items x at a.was place a.changes.was in
      let known : StandsAtHouse a.was (g.house x) = house_stands c g x at a.was s place a.changes.was in
      let asks : Asks Answers (step x) a.was a.is a.posted = subst (λ n. Asks Answers (step n) a.was a.is a.posted) there.1 (a.asks known up) in
      by_step (step x) known asks

-- ---- a call of a house, and what is posted for it

-- a call of the house at a place, and what was posted after it, are an act
pub acts_at : (c d e : Cell) (at : ℕ) (h k : CellHouse) (before after : List ℕ) (Answers : command.Answer → Type 0) (now : model.House)
    (step : ℕ → HouseStep) (posted : CellHouse → List Posted) → at < length c.houses.items → h ≡ get_or c.houses.items at h
    → d.houses.items ≡ slice_set c.houses.items at k → d.directories ≡ c.directories → d.spent ≡ c.spent → d.bag ≡ c.bag → IsSameHouse h k
    → e.houses ≡ d.houses → KeepsRest d e → ((j : CellHouse) → slice_get d.houses.items at ≡ Some j → Posts d.bag e.bag before after (posted j))
    → (StandsAtHouse h now → now.up ≡ true → Asks Answers (step h.house.0) h k (posted k)) → ActsAt c e at before after Answers now step
acts_at c d e at h k before after Answers now step posted less here houses directories spent bag same kept rest posts asks = record {
  was = h;
  is = k;
  posted = posted k;
  changes = record {
    was = slice_get_read c.houses.items (length c.houses.items) at h refl less here;
    houses = ap (λ (v : Vec CellHouse Global). v.items) kept ∙ houses;
    same = same;
    rest = record { directories = rest.directories ∙ directories; spent = rest.spent ∙ spent };
  };
  posts = subst (λ b. Posts b e.bag before after (posted k)) bag
      (posts k (ap (λ hs. slice_get hs at) houses ∙ written c.houses.items at k less));
  asks = asks;
}

-- a call that is refused leaves the cell, if the house is the same and nothing is posted
pub refused_same : {T E : Type 0} (r : Result T E) (c d e : Cell) (h k : CellHouse) (o : Option Outgoing) → OnErr r ((k ≡ h) × (o ≡ None))
    → (o ≡ None → e ≡ d) → (k ≡ h → d ≡ c) → OnErr r (e ≡ c)
refused_same (Ok t) c d e h k o unchanged unposted back = tt
refused_same (Err f) c d e h k o unchanged unposted back = unposted unchanged.1 ∙ back unchanged.0

-- the same of a message that is not taken
pub untaken_same : (t : Taken) (c d e : Cell) (h k : CellHouse) (o : Option Outgoing) → UnlessTaken t ((k ≡ h) × (o ≡ None))
    → (o ≡ None → e ≡ d) → (k ≡ h → d ≡ c) → UnlessTaken t (e ≡ c)
untaken_same taken.Taken c d e h k o unchanged unposted back = tt
untaken_same (taken.Complete t) c d e h k o unchanged unposted back = tt
untaken_same (taken.Late a b) c d e h k o unchanged unposted back = unposted unchanged.1 ∙ back unchanged.0
untaken_same (taken.Early a b) c d e h k o unchanged unposted back = unposted unchanged.1 ∙ back unchanged.0
untaken_same (taken.Stale a b) c d e h k o unchanged unposted back = unposted unchanged.1 ∙ back unchanged.0
untaken_same taken.NoReplica c d e h k o unchanged unposted back = unposted unchanged.1 ∙ back unchanged.0
untaken_same taken.Foreign c d e h k o unchanged unposted back = unposted unchanged.1 ∙ back unchanged.0

-- a house changes that posts nothing
pub moved_alone : (c d : Cell) (g : model.Cell) (x at : ℕ) (h k : CellHouse) (now : model.House) → StandsAs c g → IsPlaceOf c.houses.items x at
    → h ≡ get_or c.houses.items at h → d.houses.items ≡ slice_set c.houses.items at k → d.directories ≡ c.directories → d.spent ≡ c.spent → d.bag ≡ c.bag
    → IsSameHouse h k → (StandsAtHouse h (g.house x) → StandsAtHouse k now) → StandsAs d (move_house g x now [])
moved_alone c d g x at h k now s place here houses directories spent bag same stands =
    let was : slice_get c.houses.items at ≡ Some h =
    slice_get_read c.houses.items (length c.houses.items) at h refl (place_within c.houses.items x at place) here in
    let after : StandsAtHouse k now = stands (house_stands c g x at h s place was) in
    changed_stands c d g (move_house g x now []) x at h k s place
    (record { was = was; houses = houses; same = same; rest = record { directories = directories; spent = spent } })
    (subst (λ (n : model.House). StandsAtHouse k n) (sym (put_same g.house x now)) after) (put_other g.house x now)
    (record { made = refl; lost = refl; top = refl; present = refl; next_dir = refl })
    (subst (λ (b : Bag). StandsBag b (move_house g x now [])) (sym bag) (same_bag c.bag g (move_house g x now []) (append_nil g.bag) refl s.bag))

-- a call of the house at a place for which nothing is posted is an act
pub acts_alone : (c d : Cell) (at : ℕ) (h k : CellHouse) (before : List ℕ) (Answers : command.Answer → Type 0) (now : model.House)
    (step : ℕ → HouseStep) → at < length c.houses.items → h ≡ get_or c.houses.items at h
    → d.houses.items ≡ slice_set c.houses.items at k → d.directories ≡ c.directories → d.spent ≡ c.spent → d.bag ≡ c.bag → IsSameHouse h k
    → (StandsAtHouse h now → now.up ≡ true → Asks Answers (step h.house.0) h k []) → ActsAt c d at before before Answers now step
acts_alone c d at h k before Answers now step less here houses directories spent bag same asks =
    acts_at c d d at h k before before Answers now step (λ j. []) less here houses directories spent bag same refl (record { directories = refl; spent = refl })
    (λ j there. posted_none d.bag before) asks

-- what the master of a new epoch has to post are its Joins and then its Leaves
pub epoch_parts : (s : HouseState) (dir : DirId) (k : EpochNo) (left : List HouseNo)
    → epoch_posted_by s dir k left None ≡ posted_by s dir (Some out.Join) ++ leaves_by s dir k left
epoch_parts (state.Up c) dir k left = refl
epoch_parts (state.Down octets) dir k left = refl

-- and nothing where the epoch is refused
pub epoch_unposted : (s : HouseState) (dir : DirId) (k : EpochNo) (left : List HouseNo) (r : EpochRefusal) → epoch_posted_by s dir k left (Some r) ≡ []
epoch_unposted (state.Up c) dir k left r = refl
epoch_unposted (state.Down octets) dir k left r = refl

-- what is posted in two parts
pub posted_twice : (a b c : Bag) (s t u : List ℕ) (x : HouseState) (dir : DirId) (k : EpochNo) (left : List HouseNo)
    → Posts a b s t (posted_by x dir (Some out.Join)) → Posts b c t u (leaves_by x dir k left) → Posts a c s u (epoch_posted_by x dir k left None)
posted_twice a b c s t u x dir k left joins leaves =
    subst (λ ps. Posts a c s u ps) (sym (epoch_parts x dir k left))
    (posted_both a b c s t u (posted_by x dir (Some out.Join)) (leaves_by x dir k left) joins leaves)

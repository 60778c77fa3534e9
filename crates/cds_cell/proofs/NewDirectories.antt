-- A directory more: at its master, and at the console.
use Rattle.std.proofs.Common.{Global, ◌≡◌, ◌≢◌, ℕ, zero, suc, ◌+◌, ◌≤◌, List, [], ◌∷◌, ◌++◌, Bool, true, false, length, subst, refl, sym, ◌∙◌}
use Rattle.std.proofs.Common.{ap, arith, inl, inr}
use Rattle.std.specs.Prelude.{Option, Some, None, max, not, if◌then◌else◌, ◌==◌, slice_get, slice_set}
use Rattle.std.specs.declared.vec.Vec.{Vec}
use Rattle.std.proofs.Math.ListN.{get_or}
use Rattle.std.proofs.lemmas.Bool.Decides.{nat_tests}
use Rattle.std.proofs.lemmas.Option.{slice_get_read}
use Rattle.cds_stamps.specs.declared.numbers.DirId.{DirId}
use Rattle.cds_stamps.specs.Members.{Member, master_of, members_of}
use Rattle.cell_model.specs.Cells as model
use Rattle.cell_model.specs.Commands as command
use Rattle.cell_model.specs.Holdings.{NumbersHold}
use Rattle.cell_model.specs.Sets.{has}
use Rattle.cell_model.specs.Steps.{at_house, effect, first_refusal, cell_with_directory, is_down, is_missing, is_unknown, member_list_of, note_epoch, refusals_of, root, serials_of}
use Rattle.cell_model.specs.Turns.{Turns, first_joins, found_directory}
use Rattle.cell_model.proofs.Numbers.{numbers_lem}
use Rattle.cell_model.proofs.Standing.{on_reached}
use Rattle.cell_model.proofs.Terms.{master_new}
use Rattle.cell_model.proofs.Views.{put_other}
use Rattle.script_answers.specs.declared.answer.Answer.TheVariants as answer
use Rattle.house_directory.specs.declared.outgoing.Outgoing.{Outgoing}
use Rattle.cds_cell.specs.declared.cell.Cell.{Cell}
use Rattle.cds_cell.specs.declared.console.Listing.{Listing}
use Rattle.cds_cell.specs.declared.house.CellHouse.{CellHouse}
use Rattle.cds_cell.specs.CellHouses.{StandsAtHouse}
use Rattle.cds_cell.specs.PrivateActs.{ActsAt, CanFound, Founds, GrowsByOne, KeepsRest, MasterFounds, Posts}
use Rattle.cds_cell.specs.PrivateHouses.{IsSameHouse, IsTurnAt, posted_at}
use Rattle.cds_cell.specs.PrivateSteps.{IsPlaceOf, IsStepAs}
use Rattle.cds_cell.specs.ModelCells.{Stands, StandsAs, StandsListing, directory_of, greatest_epoch, house_of}
use Rattle.cds_cell.proofs.ActSteps.{made_where, missing_where, passed, up_where}
use Rattle.cds_cell.proofs.Bags.{same_bag}
use Rattle.cds_cell.proofs.HouseActs.{Acted, acted, acts_at, listing_kept}
use Rattle.cds_cell.proofs.Houses.{house_numbers, house_of_place, place_within}

-- ---- at its master

-- the master was made, and has a place in the list
pub founder_placed : (c : Cell) (g : model.Cell) (d m : ℕ) → StandsAs c g → CanFound g d m → house_of c.houses.items m ≡ None → ⊥
founder_placed c g d m s can none =
    let unmade : has m g.made ≡ false = missing_where c g m s none in
    let made = can.made in
    absurd (cc (unmade, made))

-- the call of the master, and what is posted for it
pub master_founds : (c d e : Cell) (g : model.Cell) (at : ℕ) (h k : CellHouse) (dir : DirId) (ms : List Member) (before after : List ℕ) (o : Option Outgoing)
    → StandsAs c g → CanFound g dir.0 (master_of ms) → IsPlaceOf c.houses.items (master_of ms) at → h ≡ get_or c.houses.items at h
    → d.houses.items ≡ slice_set c.houses.items at k → d.directories ≡ c.directories → d.spent ≡ c.spent → d.bag ≡ c.bag → IsSameHouse h k
    → e.houses ≡ d.houses → KeepsRest d e → ((j : CellHouse) → slice_get d.houses.items at ≡ Some j → Posts d.bag e.bag before after (posted_at j dir o))
    → ((now : model.House) → StandsAtHouse h now → now.up ≡ true → now.slots dir.0 ≡ model.Absent → master_of ms ≡ h.house.0
    → IsTurnAt (found_directory h.house.0 now dir.0 ms) k (posted_at k dir o)) → MasterFounds e g dir.0 ms before after
master_founds c d e g at h k dir ms before after o s can place here houses directories spent bag same kept rest posts turn =
    record { stands = a.stands; told = a.told }
  where
    x : ℕ
    x = master_of ms

    is : slice_get c.houses.items at ≡ Some h
    is = slice_get_read c.houses.items (length c.houses.items) at h refl (place_within c.houses.items (master_of ms) at place) here

    acts : ActsAt c e at before after (λ a. Unit {0}) (g.house (master_of ms)) (λ y. Turns (found_directory y (g.house (master_of ms)) dir.0 ms))
    acts = acts_at c d e at h k before after (λ a. Unit {0}) (g.house (master_of ms)) (λ y. Turns (found_directory y (g.house (master_of ms)) dir.0 ms))
        (λ j. posted_at j dir o) (place_within c.houses.items (master_of ms) at place) here houses directories spent bag same kept rest posts
        (λ stands up. ((λ ns. tt), turn (g.house (master_of ms)) stands up can.absent (sym (house_of_place c.houses.items (master_of ms) at h place is).1)))

    a : Acted e g (master_of ms) before after (λ a. Unit {0}) (Turns (found_directory (master_of ms) (g.house (master_of ms)) dir.0 ms))
    a = acted c e g (master_of ms) at before after (λ a. Unit {0}) (λ y. Turns (found_directory y (g.house (master_of ms)) dir.0 ms)) s place acts can.up

-- ---- at the console

-- the listings after one more
listing_added : (ls : List Listing) (l : Listing) (j : ℕ) → slice_get (ls ++ l ∷ []) j ≡ (if j == length ls then Some l else slice_get ls j)
listing_added [] l zero = refl
listing_added [] l (suc j) = let off : (suc j == zero) ≡ false = grind (arith, nat_tests) in rw off refl
listing_added (k ∷ ls) l zero = let off : (zero == suc (length ls)) ≡ false = grind (arith, nat_tests) in rw off refl
listing_added (k ∷ ls) l (suc j) = let same : (suc j == suc (length ls)) ≡ (j == length ls) = next_alike (j == length ls) refl in rw same (listing_added ls l j)
  where
    next_alike : (b : Bool) → (j == length ls) ≡ b → (suc j == suc (length ls)) ≡ b
    next_alike true on = grind (arith, nat_tests, on)
    next_alike false off = grind (arith, nat_tests, off)

count_added : (ls : List Listing) (l : Listing) → length (ls ++ l ∷ []) ≡ length ls + 1
count_added [] l = refl
count_added (k ∷ ls) l = let rest = count_added ls l in omega (arith, rest)

-- the model's cell in which the console knows a new directory
abbrev with_new : model.Cell → (d next : ℕ) → List Member → model.Cell
with_new g d next ms = record (note_epoch g d 1 ms) { next_dir = next }

-- the cell in which the console knows a directory more, where the model's knows the same
pub added_stands : (c e : Cell) (g : model.Cell) (d next : ℕ) (ms : List Member) (l : Listing) → StandsAs c g → d ≡ length c.directories.items + 1
    → next ≡ max 2 (d + 1) → e.houses ≡ c.houses → e.directories.items ≡ c.directories.items ++ l ∷ [] → e.bag ≡ c.bag → e.spent ≡ c.spent
    → l.epoch.0 ≡ 1 → members_of l.members ≡ ms → StandsAs e (with_new g d next ms)
added_stands c e g d next ms l s number is houses directories bag spent epoch members = record {
  made = s.made ∙ ap (λ (v : Vec CellHouse Global). house_numbers v.items) (sym houses);
  once = s.once;
  houses = λ x. rw houses (s.houses x);
  directories = λ f. rw directories (known f (s.directories f));
  next = is ∙ ap (λ n. max 2 (n + 1)) (number ∙ sym (ap length directories ∙ count_added c.directories.items l));
  bag = rw bag (same_bag c.bag g (with_new g d next ms) refl refl s.bag);
  usable = spent ∙ s.usable;
}
  where
    there : (f : ℕ) (o : Option Listing) → f ≢ d → StandsListing o g f → StandsListing o (with_new g d next ms) f
    there f o apart stands = listing_kept o g (with_new g d next ms) f (put_other g.top d 1 f apart) (put_other g.present d ms f apart) stands

    here : (f : ℕ) → f ≡ d → StandsListing (Some l) (with_new g d next ms) f
    here f same =
        let on : (f == d) ≡ true = grind (arith, nat_tests, same) in
        (omega (arith, epoch), rw on (sym epoch), rw on (sym members))

    known : (f : ℕ) → StandsListing (directory_of c.directories.items f) g f
        → StandsListing (directory_of (c.directories.items ++ l ∷ []) f) (with_new g d next ms) f
    known zero stands = there zero None (λ same. omega (arith, same, number)) stands
    known (suc j) stands = rw (listing_added c.directories.items l j) (go (j == length c.directories.items) refl)
      where
        go : (b : Bool) → (j == length c.directories.items) ≡ b
            → StandsListing (if b then Some l else slice_get c.directories.items j) (with_new g d next ms) (suc j)
        go true on = let same : suc j ≡ d = grind (arith, nat_tests, on, number) in here (suc j) same
        go false off = let apart : suc j ≢ d = grind (arith, nat_tests, off, number) in there (suc j) (slice_get c.directories.items j) apart stands

-- a directory more, whose master holds it
pub founds_listed : (c d e : Cell) (g : model.Cell) (dir : ℕ) (ms : List Member) (before after : List ℕ) (l : Listing) → MasterFounds d g dir ms before after
    → KeepsRest c d → dir ≡ length c.directories.items + 1 → e.houses ≡ d.houses → e.directories.items ≡ d.directories.items ++ l ∷ [] → e.bag ≡ d.bag
    → e.spent ≡ d.spent → l.epoch.0 ≡ 1 → members_of l.members ≡ ms → Founds e g dir ms before after
founds_listed c d e g dir ms before after l m kept number houses directories bag spent epoch members =
    let same : length c.directories.items ≡ length d.directories.items = ap (λ (v : Vec Listing Global). length v.items) (sym kept.directories) in record {
      stands = λ next is.
          added_stands d e (at_house g (master_of ms) (Turns (found_directory (master_of ms) (g.house (master_of ms)) dir ms))).cell dir next ms l m.stands
          (number ∙ ap (λ n. n + 1) same) is houses directories bag spent epoch members;
      told = m.told;
    }

greatest_added : (ls : List Listing) (l : Listing) → l.epoch.0 ≡ 1 → greatest_epoch (ls ++ l ∷ []) ≤ max (greatest_epoch ls) 1
greatest_added [] l first = omega (arith, first)
greatest_added (k ∷ ls) l first = let rest = greatest_added ls l first in omega (arith, rest)

-- and so the cell grows
pub listed_grows : (c d e : Cell) (l : Listing) → KeepsRest c d → d.bag.posted ≤ c.bag.posted + 64 → e.directories.items ≡ d.directories.items ++ l ∷ []
    → e.bag ≡ d.bag → l.epoch.0 ≡ 1 → GrowsByOne c e
listed_grows c d e l kept few directories bag first =
    let is : e.directories.items ≡ c.directories.items ++ l ∷ [] = directories ∙ ap (λ (v : Vec Listing Global). v.items ++ l ∷ []) kept.directories in
    record {
      messages = rw bag few;
      directories = ap length is ∙ count_added c.directories.items l;
      epochs = subst (λ ls. greatest_epoch ls ≤ max (greatest_epoch c.directories.items) 1) (sym is) (greatest_added c.directories.items l first);
    }

-- ---- the root

-- the console lists nothing where it does not know the root
unlisted : (ls : List Listing) (g : model.Cell) → StandsListing (directory_of ls 1) g 1 → g.top 1 ≡ 0 → ls ≡ []
unlisted [] g stands none = refl
unlisted (l ∷ ls) g stands none = let first = stands.0 in let top = stands.1 in absurd (omega (arith, first, top, none))

module _ (c : Cell) (g : model.Cell) (m : ℕ) (rs ss : List ℕ) (s : Stands c g) (none : first_refusal (refusals_of g (command.Root m rs ss)) ≡ None) where
  no_root : g.top 1 ≡ 0
  no_root =
      let known : not (is_unknown g 1) ≡ false =
      passed (refusals_of g (command.Root m rs ss)) (not (is_unknown g 1)) command.DirectoryExists (inl refl) none in
      grind (arith, nat_tests, known)

  no_directory : length c.directories.items ≡ 0
  no_directory = ap length (unlisted c.directories.items g (s.stands.directories 1) no_root)

  can : CanFound g 1 m
  can = record {
    made = made_where g m rs (passed (refusals_of g (command.Root m rs ss)) (is_missing g (m ∷ rs)) command.NoHouse (inr (inl refl)) none);
    up = up_where g m (passed (refusals_of g (command.Root m rs ss)) (is_down g m) command.Down (inr (inr (inr (inl refl)))) none);
    absent = ((on_reached NumbersHold numbers_lem g s.reached).nothing 1 no_root).absent m;
  }

  -- the root, whose master holds it
  pub root_comes : (e : Cell) (ms : List Member) (before after : List ℕ) → ms ≡ member_list_of [] 1 m rs ss → before ≡ []
      → (CanFound g 1 (master_of ms) → 1 ≡ length c.directories.items + 1 → Founds e g 1 ms before after)
      → IsStepAs (answer.Posted after) e (effect g (command.Root m rs ss))
  root_comes e ms before after is first founds =
      let lead : master_of ms ≡ m = ap master_of is ∙ master_new [] 1 m rs ss in
      let f : Founds e g 1 ms before after =
      founds (subst (CanFound g 1) (sym lead) can) (sym (ap (λ n. n + 1) no_directory)) in
      let next : g.next_dir ≡ max 2 (1 + 1) = s.stands.next ∙ ap (λ n. max 2 (n + 1)) no_directory in
      let made : StandsAs e (cell_with_directory g 1 (master_of ms) ms) = f.stands g.next_dir next in
      let told : after ≡ serials_of g (first_joins (g.house (master_of ms)).floor 1 (master_of ms) ms) =
      f.told ∙ ap (λ ns. ns ++ serials_of g (first_joins (g.house (master_of ms)).floor 1 (master_of ms) ms)) first in
      let whole : IsStepAs (answer.Posted after) e (root g (master_of ms) ms) =
      record { answer = ap (λ ns. Some (answer.Posted ns)) (sym told); stands = made } in
      subst (λ x. IsStepAs (answer.Posted after) e (root g x (member_list_of [] 1 m rs ss))) lead
      (subst (λ ms'. IsStepAs (answer.Posted after) e (root g (master_of ms) ms')) is whole)

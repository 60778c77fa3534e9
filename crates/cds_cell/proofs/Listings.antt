-- What the console lists again, once a cell is taken back.
use Rattle.std.proofs.Common.{◌≡◌, ◌⊎◌, inl, inr, ℕ, zero, suc, ◌+◌, ◌<◌, ◌≤◌, Bool, true, false, List, [], ◌∷◌, length, take, refl, sym, ap, subst, ◌∙◌, arith}
use Rattle.std.specs.Prelude.{Option, Some, None, nat_lt, min, slice_get, slice_set, ◌==◌, if◌then◌else◌}
use Rattle.std.proofs.Math.ListN.{length-set}
use Rattle.std.proofs.lemmas.Bool.{cases_lt}
use Rattle.std.proofs.lemmas.Bool.Decides.{nat_tests}
use Rattle.std.proofs.lemmas.List.{length-take, length-take-le}
use Rattle.std.proofs.lemmas.Option.{slice_get_past, slice_get_within}
use Rattle.cell_model.specs.Cells as model
use Rattle.cell_model.specs.Commands as command
use Rattle.cell_model.specs.Commands.{Command}
use Rattle.cds_cell.specs.declared.cell.Cell.{Cell}
use Rattle.cds_cell.specs.declared.console.Listing.{Listing}
use Rattle.cds_cell.specs.Marks.{Replaces}
use Rattle.cds_cell.specs.PrivateMarks.{is_earlier, listed_again, relisted}
use Rattle.cds_cell.specs.ModelCells.{StandsListing, directory_of, greatest_epoch}
use Rattle.cds_cell.proofs.Bags.{item_at}
use Rattle.cds_cell.proofs.EpochSteps.{greatest_at, greatest_set}
use Rattle.cds_cell.proofs.HouseActs.{listing_changed, listing_kept}
use Rattle.cds_cell.proofs.LoneSteps.{Renews, SameListed}

-- ---- the first ones

take_within : {X : Type 0} (n : ℕ) (xs : List X) (i : ℕ) → i < n → slice_get (take n xs) i ≡ slice_get xs i
take_within zero xs i less = absurd (omega (arith, less))
take_within (suc n) [] i less = refl
take_within (suc n) (x ∷ xs) zero less = refl
take_within (suc n) (x ∷ xs) (suc i) less = take_within n xs i (omega (arith, less))

greatest_first : (n : ℕ) (ls : List Listing) → greatest_epoch (take n ls) ≤ greatest_epoch ls
greatest_first zero ls = omega arith
greatest_first (suc n) [] = omega arith
greatest_first (suc n) (l ∷ ls) = let rest = greatest_first n ls in omega (arith, rest)

-- ---- one listing again

-- where it is of an earlier epoch, and where it is not
relisted_there : (i : ℕ) (l now : Listing) (ls : List Listing) (b : Bool) → slice_get ls i ≡ Some now → nat_lt l.epoch.0 now.epoch.0 ≡ b
    → relisted i l ls ≡ (if b then slice_set ls i l else ls)
relisted_there i l now ls b there test = ap (λ (t : Bool). if t then slice_set ls i l else ls) (ap (is_earlier l) there ∙ test)

relisted_length : (i : ℕ) (l : Listing) (ls : List Listing) → length (relisted i l ls) ≡ length ls
relisted_length i l ls = by (is_earlier l (slice_get ls i))
  where
    by : (b : Bool) → length (if b then slice_set ls i l else ls) ≡ length ls
    by true = length-set ls i l
    by false = refl

relisted_greatest : (i : ℕ) (l : Listing) (ls : List Listing) → greatest_epoch (relisted i l ls) ≤ greatest_epoch ls
relisted_greatest i l ls = by_there (slice_get ls i) refl
  where
    by_test : (now : Listing) → slice_get ls i ≡ Some now → (b : Bool) → nat_lt l.epoch.0 now.epoch.0 ≡ b
        → greatest_epoch (if b then slice_set ls i l else ls) ≤ greatest_epoch ls
    by_test now there true test =
        let high = greatest_at ls i now there in
        let low : l.epoch.0 < now.epoch.0 = grind (arith, nat_tests, test) in
        greatest_set ls i (greatest_epoch ls) l (omega (arith, high, low)) (omega arith)
    by_test now there false test = omega arith

    by_there : (o : Option Listing) → slice_get ls i ≡ o → greatest_epoch (if is_earlier l o then slice_set ls i l else ls) ≤ greatest_epoch ls
    by_there None none = omega arith
    by_there (Some now) there = by_test now there (nat_lt l.epoch.0 now.epoch.0) refl

-- ---- the list again

pub again_length : (n : ℕ) (o : Option (ℕ × Listing)) (ls : List Listing) → length (listed_again n o ls) ≡ min n (length ls)
again_length n None ls = length-take n ls
again_length n (Some r) ls = relisted_length r.0 r.1 (take n ls) ∙ length-take n ls

pub again_greatest : (n : ℕ) (o : Option (ℕ × Listing)) (ls : List Listing) → greatest_epoch (listed_again n o ls) ≤ greatest_epoch ls
again_greatest n None ls = greatest_first n ls
again_greatest n (Some r) ls =
    let first = greatest_first n ls in
    let again = relisted_greatest r.0 r.1 (take n ls) in
    omega (arith, first, again)

-- a listing of it
again_there : (n : ℕ) (r : ℕ × Listing) (ls : List Listing) (now : Listing) (i : ℕ) (b : Bool) → r.0 < n → n ≤ length ls → i < n → slice_get ls r.0 ≡ Some now
    → nat_lt r.1.epoch.0 now.epoch.0 ≡ b
    → slice_get (listed_again n (Some r) ls) i ≡ (if b then (if i == r.0 then Some r.1 else slice_get ls i) else slice_get ls i)
again_there n r ls now i b less many within there test =
    ap (λ xs. slice_get xs i) (relisted_there r.0 r.1 now (take n ls) b (take_within n ls r.0 less ∙ there) test) ∙ by b
  where
    by : (b : Bool) → slice_get (if b then slice_set (take n ls) r.0 r.1 else take n ls) i
        ≡ (if b then (if i == r.0 then Some r.1 else slice_get ls i) else slice_get ls i)
    by true =
        let long : length (take n ls) ≡ n = length-take-le n ls many in
        listing_changed (take n ls) r.0 i r.1 (omega (arith, less, long))
        ∙ ap (λ o. if i == r.0 then Some r.1 else o) (take_within n ls i within)
    by false = take_within n ls i within

-- ---- after a command of one house

module _ (c d : Cell) (g o : model.Cell) (k : Command) (was : (e : ℕ) → StandsListing (directory_of c.directories.items e) g e)
    (is : (e : ℕ) → StandsListing (directory_of d.directories.items e) o e) (listed : (e : ℕ) → SameListed g o e ⊎ Renews g o k e) where
  abbrev before : List Listing
  before = c.directories.items

  abbrev old : List Listing
  old = d.directories.items

  -- a directory that was listed is listed anew with a later epoch
  renews_later : (k : Command) (e : ℕ) → 1 ≤ g.top e → Renews g o k e → g.top e < o.top e
  renews_later (command.Root m rs ss) e some new = absurd (omega (arith, some, new))
  renews_later (command.Epoch e' m rs ss) e some new = new.1
  renews_later k e some new = absurd new

  -- what was listed at a place
  known : (i : ℕ) (l : Listing) → slice_get before i ≡ Some l → StandsListing (Some l) g (suc i)
  known i l there = subst (λ q. StandsListing q g (suc i)) there (was (suc i))

  -- none is listed no more
  none_unlisted : (i : ℕ) → i < length before → slice_get old i ≡ None → ⊥
  none_unlisted i within none = by (item_at before i within) (listed (suc i))
    where
      by : (l : Listing) × (slice_get before i ≡ Some l) → SameListed g o (suc i) ⊎ Renews g o k (suc i) → ⊥
      by there same =
          let l = known i there.0 there.1 in
          let some : 1 ≤ g.top (suc i) = (let first = l.0 in let top = l.1 in omega (arith, first, top)) in
          let unknown : o.top (suc i) ≡ 0 = subst (λ q. StandsListing q o (suc i)) none (is (suc i)) in
          by_listed some unknown same
        where
          by_listed : 1 ≤ g.top (suc i) → o.top (suc i) ≡ 0 → SameListed g o (suc i) ⊎ Renews g o k (suc i) → ⊥
          by_listed some unknown (inl same) = let top = same.0 in absurd (omega (arith, some, unknown, top))
          by_listed some unknown (inr new) = let later = renews_later k (suc i) some new in absurd (omega (arith, unknown, later))

  pub no_fewer : length before ≤ length old
  no_fewer = by (cases_lt (length old) (length before))
    where
      by : (length old < length before) ⊎ (length before ≤ length old) → length before ≤ length old
      by (inl less) = absurd (none_unlisted (length old) less (slice_get_past old (length old) (omega arith)))
      by (inr le) = le

  -- a listing that stayed
  stayed : (i : ℕ) → SameListed g o (suc i) → StandsListing (slice_get old i) g (suc i)
  stayed i same = listing_kept (slice_get old i) o g (suc i) (sym same.0) (sym same.1) (is (suc i))

  -- a command that gives no epoch
  unmarked : (k : Command) (i : ℕ) (l : Listing) → slice_get before i ≡ Some l → Replaces None c k → SameListed g o (suc i) ⊎ Renews g o k (suc i)
      → StandsListing (slice_get old i) g (suc i)
  unmarked k i l there mark (inl same) = stayed i same
  unmarked (command.Root m rs ss) i l there mark (inr new) =
      let it = known i l there in
      let first = it.0 in
      let top = it.1 in
      absurd (omega (arith, first, top, new))
  unmarked (command.Epoch e m rs ss) i l there mark (inr new) =
      let none : slice_get before i ≡ None = ap (directory_of before) new.0 ∙ mark in
      absurd (cc (none, there))
  unmarked k i l there mark (inr new) = absurd new

  -- the epoch of a directory
  marked : (e m : ℕ) (rs ss : List ℕ) (r : ℕ × Listing) → (e ≡ r.0 + 1) × (slice_get before r.0 ≡ Some r.1) → (i : ℕ) (l now : Listing) → i < length before
      → r.0 < length before → slice_get before i ≡ Some l → slice_get old r.0 ≡ Some now
      → SameListed g o (suc i) ⊎ Renews g o (command.Epoch e m rs ss) (suc i) → (b : Bool) → nat_lt r.1.epoch.0 now.epoch.0 ≡ b → (t : Bool) → (i == r.0) ≡ t
      → StandsListing (if b then (if t then Some r.1 else slice_get old i) else slice_get old i) g (suc i)
  marked e m rs ss r mark i l now within less there here same true test true on =
      let is_it : i ≡ r.0 = grind (arith, nat_tests, on) in
      known i r.1 (ap (slice_get before) is_it ∙ mark.1)
  marked e m rs ss r mark i l now within less there here (inl same) true test false off = stayed i same
  marked e m rs ss r mark i l now within less there here (inr new) true test false off =
      let number = mark.0 in
      let next = new.0 in
      let is_it : i ≡ r.0 = omega (arith, number, next) in
      let on : (i == r.0) ≡ true = grind (arith, nat_tests, is_it) in
      absurd (cc (on, off))
  marked e m rs ss r mark i l now within less there here (inl same) false test t on = stayed i same
  marked e m rs ss r mark i l now within less there here (inr new) false test t on =
      let number = mark.0 in
      let next = new.0 in
      let is_it : i ≡ r.0 = omega (arith, number, next) in
      let first = known i r.1 (ap (slice_get before) is_it ∙ mark.1) in
      let after : StandsListing (Some now) o (suc i) = subst (λ q. StandsListing q o (suc i)) (ap (slice_get old) is_it ∙ here) (is (suc i)) in
      let a = first.1 in
      let b = after.1 in
      let later = new.1 in
      let less : r.1.epoch.0 < now.epoch.0 = omega (arith, a, b, later) in
      let on : nat_lt r.1.epoch.0 now.epoch.0 ≡ true = grind (arith, nat_tests, less) in
      absurd (cc (on, test))

  -- a place of the list
  at_place : (k : Command) (p : Option (ℕ × Listing)) → Replaces p c k → (i : ℕ) → i < length before → (l : Listing) → slice_get before i ≡ Some l
      → SameListed g o (suc i) ⊎ Renews g o k (suc i) → StandsListing (slice_get (listed_again (length before) p old) i) g (suc i)
  at_place k None mark i within l there same =
      subst (λ q. StandsListing q g (suc i)) (sym (take_within (length before) old i within)) (unmarked k i l there mark same)
  at_place (command.Epoch e m rs ss) (Some r) mark i within l there same =
      let less : r.0 < length before = slice_get_within before r.0 r.1 mark.1 in
      let many = no_fewer in
      let now = item_at old r.0 (omega (arith, less, many)) in
      subst (λ q. StandsListing q g (suc i))
      (sym (again_there (length before) r old now.0 i (nat_lt r.1.epoch.0 now.0.epoch.0) less many within now.1 refl))
      (marked e m rs ss r mark i l now.0 within less there now.1 same (nat_lt r.1.epoch.0 now.0.epoch.0) refl (i == r.0) refl)
  at_place k (Some r) mark i within l there same = absurd (cc (mark))

  -- the console lists again what it did
  pub lists_back : (p : Option (ℕ × Listing)) → Replaces p c k → (e : ℕ) → StandsListing (directory_of (listed_again (length before) p old) e) g e
  lists_back p mark zero = was zero
  lists_back p mark (suc i) = by (cases_lt i (length before))
    where
      by : (i < length before) ⊎ (length before ≤ i) → StandsListing (slice_get (listed_again (length before) p old) i) g (suc i)
      by (inl within) = let there = item_at before i within in at_place k p mark i within there.0 there.1 (listed (suc i))
      by (inr past) =
          let long = again_length (length before) p old in
          let none : slice_get (listed_again (length before) p old) i ≡ None =
          slice_get_past (listed_again (length before) p old) i (omega (arith, long, past)) in
          subst (λ q. StandsListing q g (suc i)) (sym none) (subst (λ q. StandsListing q g (suc i)) (slice_get_past before i past) (was (suc i)))

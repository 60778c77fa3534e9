-- Reading items one after another into a map, as a loop does.
use Rattle.std.proofs.Common.{◌≡◌, ℕ, suc, ◌-◌, ◌+◌, ◌≤◌, ◌<◌, List, ◌∷◌, Option, Some, None, Result, Ok, Err, refl, sym, ap, ◌∙◌, arith}
use Rattle.std.specs.FinMap.{FinMap, empty, insert}
use Rattle.std.specs.declared.cmp.Ordering.{Ordering}
use Rattle.cds_stamps.specs.declared.alloc_or.AllocOr.{AllocOr}
use Rattle.cds_stamps.specs.declared.alloc_or.AllocOr.TheVariants.{Fault, OutOfMemory}
use Rattle.record_fields.specs.declared.fault.Broken.{Broken}
use Rattle.record_fields.specs.Layouts.{Layout}
use Rattle.record_fields.specs.LayoutReading.{◌>>=◌, read}
use Rattle.record_fields.specs.FieldReaders.{Reads, Adds}
use Rattle.record_fields.specs.Added.{add_all}
use Rattle.record_fields.specs.ListLayouts.{item, ascending_items, map_of}

-- the items that are still to be read, added to the map of those before
abbrev pub added : {K X : Type 0} {R : K → K → Ordering} → FinMap R X → Result (List (K × X) × List ℕ) Broken → Result (FinMap R X × List ℕ) Broken
added m r = r >>= λ y. Ok (add_all m y.0, y.1)

one_added : {K X : Type 0} {R : K → K → Ordering} (m : FinMap R X) (e : K × X) (r : Result (List (K × X) × List ℕ) Broken)
    → added m (r >>= λ y. Ok (e ∷ y.0, y.1)) ≡ added (insert m e.0 e.1) r
one_added m e (Ok y) = refl
one_added m e (Err b) = refl

-- what is still to be read after i of so many items
abbrev pub to_come : {K X : Type 0} {R : K → K → Ordering} → (Option K → Layout K) → Layout X → FinMap R X → ℕ → ℕ → Option K → List ℕ
    → Result (FinMap R X × List ℕ) Broken
to_come key content m count i before x = added m (read (ascending_items key content (count - i) before) x)

module _ {K X : Type 0} {R : K → K → Ordering} (key : Option K → Layout K) (content : Layout X) where
  -- before the first item all of the map is to come
  pub begins : (count : ℕ) (x : List ℕ) → to_come {R = R} key content empty count 0 None x ≡ read (map_of {R = R} key content count) x
  unfolding map_of
  begins count x = let k : count - 0 ≡ count = omega arith in rw k refl

  -- an item that was read brings the loop one further
  pub goes_on : {Y : Type 0} (view : Y → K) (y : Y) (m n : FinMap R X) (count i : ℕ) (before : Option K) (x z : List ℕ)
      (total : Result (FinMap R X × List ℕ) Broken) → i < count → Adds view (item key content before) m n x z (Ok y)
      → to_come key content m count i before x ≡ total → to_come key content n count (i + 1) (Some (view y)) z ≡ total
  unfolding ascending_items
  goes_on view y m n count i before x z total lt adds so_far =
      let k : count - i ≡ suc (count - (i + 1)) = omega arith in
      let one : to_come key content m count i before x ≡ to_come key content (insert m (view y) adds.0) count (i + 1) (Some (view y)) z =
      rw (k, adds.1) (one_added m (view y, adds.0) (read (ascending_items key content (count - (i + 1)) (Some (view y))) z)) in
      ap (λ n. to_come key content n count (i + 1) (Some (view y)) z) adds.2 ∙ sym one ∙ so_far

  -- an item that fails fails the map
  pub ends : {Y V : Type 0} (seen : V → FinMap R X) (view : Y → K) (e : AllocOr Broken) (m n : FinMap R X) (count i : ℕ) (before : Option K)
      (x z w start : List ℕ) → i < count → Adds view (item key content before) m n x z (Err e)
      → to_come key content m count i before x ≡ read (map_of {R = R} key content count) start → Reads seen (map_of {R = R} key content count) start w (Err e)
  unfolding ascending_items
  ends seen view OutOfMemory m n count i before x z w start lt adds so_far = tt
  ends seen view (Fault b) m n count i before x z w start lt adds so_far =
      let k : count - i ≡ suc (count - (i + 1)) = omega arith in
      let one : to_come key content m count i before x ≡ Err b = rw (k, adds) refl in
      sym so_far ∙ one

  -- after the last item the map is read
  pub is_done : (m : FinMap R X) (count i : ℕ) (before : Option K) (x : List ℕ) (total : Result (FinMap R X × List ℕ) Broken) → count ≤ i
      → to_come key content m count i before x ≡ total → total ≡ Ok (m, x)
  unfolding ascending_items
  is_done m count i before x total le so_far =
      let k : count - i ≡ 0 = omega arith in
      let one : to_come key content m count i before x ≡ Ok (m, x) = rw k refl in
      sym so_far ∙ one

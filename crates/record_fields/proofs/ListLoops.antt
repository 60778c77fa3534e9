-- Reading items one after another into a list, as a loop does.
use Rattle.std.proofs.Common.{◌≡◌, ℕ, suc, ◌-◌, ◌+◌, ◌≤◌, ◌<◌, List, [], ◌∷◌, ◌++◌, Option, Some, None, Result, Ok, Err, refl, sym, ap, ◌∙◌}
use Rattle.std.proofs.Common.{append_assoc, append-nil, arith}
use Rattle.cds_stamps.specs.declared.alloc_or.AllocOr.{AllocOr}
use Rattle.cds_stamps.specs.declared.alloc_or.AllocOr.TheVariants.{Fault, OutOfMemory}
use Rattle.record_fields.specs.declared.fault.Broken.{Broken}
use Rattle.record_fields.specs.Layouts.{Layout}
use Rattle.record_fields.specs.LayoutReading.{◌>>=◌, read}
use Rattle.record_fields.specs.FieldReaders.{Reads, Puts}
use Rattle.record_fields.specs.ListLayouts.{item, ascending_items}

-- the items before, and those that are still to be read
abbrev pub behind : {X : Type 0} → List X → Result (List X × List ℕ) Broken → Result (List X × List ℕ) Broken
behind front r = r >>= λ y. Ok (front ++ y.0, y.1)

nothing_before : {X : Type 0} (r : Result (List X × List ℕ) Broken) → behind [] r ≡ r
nothing_before (Ok y) = refl
nothing_before (Err b) = refl

one_listed : {X : Type 0} (front : List X) (e : X) (r : Result (List X × List ℕ) Broken)
    → behind front (r >>= λ y. Ok (e ∷ y.0, y.1)) ≡ behind (front ++ e ∷ []) r
one_listed {X} front e (Ok y) = ap (λ (es : List X). Ok (es, y.1)) (sym (append_assoc front (e ∷ []) y.0))
one_listed front e (Err b) = refl

module _ {K X : Type 0} (key : Option K → Layout K) (content : Layout X) where
  -- before the first item all of the list is to come
  pub list_begins : (count : ℕ) (x : List ℕ) → behind [] (read (ascending_items key content (count - 0) None) x) ≡ read (ascending_items key content count None) x
  list_begins count x = let k : count - 0 ≡ count = omega arith in rw k (nothing_before (read (ascending_items key content count None) x))

  -- an item that was read brings the loop one further
  pub list_goes_on : {Y : Type 0} (view : Y → K) (y : Y) (front items : List (K × X)) (count i : ℕ) (before : Option K) (x z : List ℕ)
      (total : Result (List (K × X) × List ℕ) Broken) → i < count → Puts view (item key content before) front items x z (Ok y)
      → behind front (read (ascending_items key content (count - i) before) x) ≡ total
      → behind items (read (ascending_items key content (count - (i + 1)) (Some (view y))) z) ≡ total
  unfolding ascending_items
  list_goes_on view y front items count i before x z total lt puts so_far =
      let k : count - i ≡ suc (count - (i + 1)) = omega arith in
      let one : behind front (read (ascending_items key content (count - i) before) x)
      ≡ behind (front ++ (view y, puts.0) ∷ []) (read (ascending_items key content (count - (i + 1)) (Some (view y))) z) =
      rw (k, puts.1) (one_listed front (view y, puts.0) (read (ascending_items key content (count - (i + 1)) (Some (view y))) z)) in
      ap (λ es. behind es (read (ascending_items key content (count - (i + 1)) (Some (view y))) z)) puts.2 ∙ sym one ∙ so_far

  -- an item that fails fails the list
  pub list_ends : {Y V : Type 0} (seen : V → List (K × X)) (view : Y → K) (e : AllocOr Broken) (front items : List (K × X)) (count i : ℕ)
      (before : Option K) (x z w start : List ℕ) → i < count → Puts view (item key content before) front items x z (Err e)
      → behind front (read (ascending_items key content (count - i) before) x) ≡ read (ascending_items key content count None) start
      → Reads seen (ascending_items key content count None) start w (Err e)
  unfolding ascending_items
  list_ends seen view OutOfMemory front items count i before x z w start lt puts so_far = tt
  list_ends seen view (Fault b) front items count i before x z w start lt puts so_far =
      let k : count - i ≡ suc (count - (i + 1)) = omega arith in
      let one : behind front (read (ascending_items key content (count - i) before) x) ≡ Err b = rw (k, puts) refl in
      sym so_far ∙ one

  -- after the last item the list is read
  pub list_done : (front : List (K × X)) (count i : ℕ) (before : Option K) (x : List ℕ) (total : Result (List (K × X) × List ℕ) Broken) → count ≤ i
      → behind front (read (ascending_items key content (count - i) before) x) ≡ total → total ≡ Ok (front, x)
  unfolding ascending_items
  list_done front count i before x total le so_far =
      let k : count - i ≡ 0 = omega arith in
      let one : behind front (read (ascending_items key content (count - i) before) x) ≡ Ok (front, x) =
      rw k (ap (λ (es : List (K × X)). Ok (es, x)) (append-nil front)) in
      sym so_far ∙ one

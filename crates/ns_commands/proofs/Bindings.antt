-- Bindings that an importer gives one after the other: those that were given, and those that are
-- still to come.
use Rattle.std.proofs.Common.{◌≡◌, ◌∙◌, ℕ, ◌+◌, ◌<◌, Bool, true, false, List, [], ◌∷◌, ◌++◌, length, drop}
use Rattle.std.proofs.Common.{slice_get, refl, sym, ap, subst, arith, append_assoc, append-nil}
use Rattle.std.specs.Prelude.{Option, Some, None, is_none}

module _ {A : Type 0} where
  -- how many are still to come
  abbrev pub left_over : Option (List A) → ℕ
  left_over None = 0
  left_over (Some left) = length left

  -- those that were given and those that are still to come are all that there were at first
  abbrev pub Given : (first now : Option (List A)) → List A → Type 0
  Given first now given = (all : List A) → first ≡ Some all → (left : List A) × (now ≡ Some left) × (given ++ left ≡ all)

  -- a call gives this one, if it gives one
  abbrev pub Gives : (old new : Option (List A)) → Option A → Type 0
  Gives old new next = (left : List A) → old ≡ Some left → (next ≡ slice_get left 0) × (new ≡ Some (drop 1 left))

  -- then fewer are left
  pub fewer_left : (old new : Option (List A)) (b : A) → is_none old ≡ false → Gives old new (Some b) → left_over new < left_over old
  fewer_left None new b usable gives = absurd cc
  fewer_left (Some []) new b usable gives = let given = (gives [] refl).0 in absurd cc
  fewer_left (Some (x ∷ xs)) new b usable gives =
      let is : new ≡ Some xs = (gives (x ∷ xs) refl).1 in
      subst (λ (o : Option (List A)). left_over o < length (x ∷ xs)) (sym is) (omega arith)

  -- and this one is after those that were given
  pub given_more : (first old new : Option (List A)) (given : List A) (b : A) → Given first old given → Gives old new (Some b)
      → Given first new (given ++ b ∷ [])
  given_more first old new given b so_far gives all is = by_left (so_far all is).0 (so_far all is).1 (so_far all is).2
    where
      by_left : (left : List A) → old ≡ Some left → given ++ left ≡ all → (rest : List A) × (new ≡ Some rest) × ((given ++ b ∷ []) ++ rest ≡ all)
      by_left [] at whole = let next = (gives [] at).0 in absurd cc
      by_left (x ∷ xs) at whole =
          let same : b ≡ x = let next = (gives (x ∷ xs) at).0 in cc in
          (xs, (gives (x ∷ xs) at).1, append_assoc given (b ∷ []) xs ∙ ap (λ (y : A). given ++ y ∷ xs) same ∙ whole)

  -- where none is given all were
  pub all_given : (first old new : Option (List A)) (given all : List A) → Given first old given → Gives old new None → first ≡ Some all → given ≡ all
  all_given first old new given all so_far gives is = by_left (so_far all is).0 (so_far all is).1 (so_far all is).2
    where
      by_left : (left : List A) → old ≡ Some left → given ++ left ≡ all → given ≡ all
      by_left [] at whole = sym (append-nil given) ∙ whole
      by_left (x ∷ xs) at whole = let next = (gives (x ∷ xs) at).0 in absurd cc

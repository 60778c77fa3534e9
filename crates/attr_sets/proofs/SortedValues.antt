-- What a sort of values and the removal of repeats leave.
use Rattle.std.proofs.Common.{◌≡◌, ℕ, ◌+◌, ◌<◌, Bool, true, false, cond, List, [], ◌∷◌, map, length, get_or, refl, sym, ap, ◌∙◌, arith}
use Rattle.std.specs.Prelude.{nat_eq}
use Rattle.std.specs.Ordering.{is_lt}
use Rattle.std.specs.Cmp.Lexicographic.{nat_list_cmp_total, pointwise, texts_ties}
use Rattle.std.specs.List.{dedup, dedup_from}
use Rattle.std.specs.List.Sorted.{IsPermutation, IsSorted}
use Rattle.std.proofs.lemmas.Cmp.{nat_list_eq_equiv}
use Rattle.std.proofs.lemmas.List.{get_or-map, length-map}
use Rattle.std.proofs.lemmas.List.Kept.{Contains-dedup, Contains-from_dedup, IsStrictlySortedBy-dedup}
use Rattle.std.proofs.lemmas.List.Sorted.{Contains-permutation, IsPermutation-sym, IsPermutation-map}
use Rattle.cds_stamps.specs.Keyed.{ties_are_equal}
use Rattle.cds_stamps.specs.Octets.{octets_cmp, octets_exact}
use Rattle.cds_stamps.specs.Ascending.{in_ascending_order}
use Rattle.cds_stamps.proofs.AscendingLaws.{ascending-only}

-- octets that were sorted, and whose repeats were removed
sorted_once : (xs ys : List (List ℕ)) → IsPermutation xs ys → IsSorted octets_cmp ys → dedup (pointwise nat_eq) ys ≡ in_ascending_order xs
sorted_once xs ys moved sorted =
    ascending-only xs (dedup (pointwise nat_eq) ys) (IsStrictlySortedBy-dedup nat_list_cmp_total texts_ties ys sorted)
    (λ q c. Contains-permutation ys xs q (IsPermutation-sym xs ys moved) (Contains-from_dedup (pointwise nat_eq) ys q c))
    (λ q c. Contains-dedup nat_list_eq_equiv (λ x y e. ties_are_equal octets_exact x y (sym (texts_ties x y) ∙ e)) ys q (Contains-permutation xs ys q moved c))

-- lists that are seen through a function, as borrowed values are
module _ {X : Type 0} (f : X → List ℕ) where
  sorted-map : (xs : List X) → IsSorted (λ x y. octets_cmp (f x) (f y)) xs → IsSorted octets_cmp (map f xs)
  sorted-map [] sorted k d low high = absurd (omega arith)
  sorted-map (x ∷ xs) sorted k d low high =
      let long : k + 1 < length (x ∷ xs) = omega (arith, high, length-map (x ∷ xs) f) in
      let next : get_or (map f (x ∷ xs)) (k + 1) d ≡ f (get_or (x ∷ xs) (k + 1) x) = get_or-map f (x ∷ xs) (k + 1) x d long in
      let this : get_or (map f (x ∷ xs)) k d ≡ f (get_or (x ∷ xs) k x) = get_or-map f (x ∷ xs) k x d (omega arith) in
      ap (λ (v : List ℕ). is_lt (octets_cmp v (get_or (map f (x ∷ xs)) k d))) next
      ∙ ap (λ (v : List ℕ). is_lt (octets_cmp (f (get_or (x ∷ xs) (k + 1) x)) v)) this ∙ sorted k x low long

  abbrev alike : X → X → Bool
  alike a b = pointwise nat_eq (f a) (f b)

  dedup_from-map : (x : X) (xs : List X) → map f (dedup_from alike x xs) ≡ dedup_from (pointwise nat_eq) (f x) (map f xs)
  dedup_from-map x [] = refl
  dedup_from-map x (y ∷ xs) = by_case (pointwise nat_eq (f y) (f x)) (dedup_from-map x xs) (dedup_from-map y xs)
    where
      by_case : (b : Bool) → map f (dedup_from alike x xs) ≡ dedup_from (pointwise nat_eq) (f x) (map f xs)
          → map f (dedup_from alike y xs) ≡ dedup_from (pointwise nat_eq) (f y) (map f xs)
          → map f (cond b (dedup_from alike x xs) (x ∷ dedup_from alike y xs))
          ≡ cond b (dedup_from (pointwise nat_eq) (f x) (map f xs)) (f x ∷ dedup_from (pointwise nat_eq) (f y) (map f xs))
      by_case true same other = same
      by_case false same other = ap (λ ys. f x ∷ ys) other

  dedup-map : (xs : List X) → map f (dedup alike xs) ≡ dedup (pointwise nat_eq) (map f xs)
  dedup-map [] = refl
  dedup-map (x ∷ xs) = dedup_from-map x xs

  -- what a sort and a `dedup` leave of them
  pub seen_once : (xs ys : List X) → IsPermutation xs ys → IsSorted (λ x y. octets_cmp (f x) (f y)) ys
      → map f (dedup (λ a b. pointwise nat_eq (f a) (f b)) ys) ≡ in_ascending_order (map f xs)
  seen_once xs ys moved sorted = dedup-map ys ∙ sorted_once (map f xs) (map f ys) (IsPermutation-map f xs ys moved) (sorted-map ys sorted)

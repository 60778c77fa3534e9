-- Batches of a list.
use Rattle.std.proofs.Common.{◌≡◌, ◌≢◌, ℕ, zero, suc, ◌+◌, ◌-◌, ◌≤◌, ◌<◌, Bool, true, false, List, [], ◌∷◌, ◌++◌, length, take, drop, refl, sym, ap, ◌∙◌, subst, arith}
use Rattle.std.proofs.Common.{append_assoc, append-nil, length-append, if◌then◌else◌}
use Rattle.std.specs.Prelude.{◌==◌, nat_le, Option, Some, None, Result, Ok, Err, is_none, slice_get}
use Rattle.std.specs.List.{flat_map}
use Rattle.std.proofs.lemmas.Bool.Decides.{nat_tests}
use Rattle.tower_codec.specs.declared.binding.StringBinding.{StringBinding}
use Rattle.ns_import.specs.declared.fault.ImportFault.{ImportFault}
use Rattle.ns_import.specs.Imports.{begin_import}
use Rattle.ns_inquire.specs.Batches.{first_batch, last_batch, batches_from, batches}

not_full : (n m : ℕ) → n < m → n + 1 < m → (n + 1 == m) ≡ false
not_full n m h k = grind (arith, nat_tests)

is_full : (n m : ℕ) → n + 1 ≡ m → (n + 1 == m) ≡ true
is_full n m h = grind (arith, nat_tests)

module _ {A : Type 0} where
  -- ---- what came and what is left

  pub take_came : (xs ys : List A) → take (length xs) (xs ++ ys) ≡ xs
  take_came [] [] = refl
  take_came [] (y ∷ ys) = refl
  take_came (x ∷ xs) ys = ap (λ (l : List A). x ∷ l) (take_came xs ys)

  pub drop_came : (xs ys : List A) → drop (length xs) (xs ++ ys) ≡ ys
  drop_came [] [] = refl
  drop_came [] (y ∷ ys) = refl
  drop_came (x ∷ xs) ys = drop_came xs ys

  pub take_whole : (n : ℕ) (xs : List A) → length xs ≤ n → take n xs ≡ xs
  take_whole zero [] h = refl
  take_whole zero (x ∷ xs) h = absurd (omega (arith, h))
  take_whole (suc n) [] h = refl
  take_whole (suc n) (x ∷ xs) h = ap (λ (l : List A). x ∷ l) (take_whole n xs (omega (arith, h)))

  pub drop_whole : (n : ℕ) (xs : List A) → length xs ≤ n → drop n xs ≡ []
  drop_whole zero [] h = refl
  drop_whole zero (x ∷ xs) h = absurd (omega (arith, h))
  drop_whole (suc n) [] h = refl
  drop_whole (suc n) (x ∷ xs) h = drop_whole n xs (omega (arith, h))

  -- the first of what is left is taken off
  pub first_off : (rest : List A) (x : A) → Some x ≡ slice_get rest 0 → rest ≡ x ∷ drop 1 rest
  first_off [] x h = cc
  first_off (y ∷ ys) x h = let same : x ≡ y = cc in λ i. sym same i ∷ ys

  pub none_left : (rest : List A) → None ≡ slice_get rest 0 → rest ≡ []
  none_left [] h = refl
  none_left (y ∷ ys) h = cc

  -- ---- batches of a list

  -- joined together after what is at hand they are what is left
  pub joined : (most : ℕ) (batch left : List A) → flat_map (λ b. b) (batches_from most batch left) ≡ batch ++ left
  joined most [] [] = refl
  joined most (b ∷ bs) [] = refl
  joined most batch (x ∷ xs) = by_full (length batch + 1 == most) (joined most [] xs) (joined most (batch ++ x ∷ []) xs)
    where
      by_full : (full : Bool) → flat_map (λ b. b) (batches_from most [] xs) ≡ xs → flat_map (λ b. b) (batches_from most (batch ++ x ∷ []) xs) ≡ (batch ++ x ∷ []) ++ xs
          → flat_map (λ b. b) (if full then (batch ++ x ∷ []) ∷ batches_from most [] xs else batches_from most (batch ++ x ∷ []) xs) ≡ batch ++ x ∷ xs
      by_full true empty on = ap (λ (l : List A). (batch ++ x ∷ []) ++ l) empty ∙ append_assoc batch (x ∷ []) xs
      by_full false empty on = on ∙ append_assoc batch (x ∷ []) xs

  -- after what is at hand so many are missing: where as many are left, they fill the batch
  pub filled : (most : ℕ) (missing : ℕ) (batch left : List A) → length batch + missing ≡ most → 1 ≤ missing → missing ≤ length left
      → batches_from most batch left ≡ (batch ++ take missing left) ∷ batches_from most [] (drop missing left)
  filled most zero batch left h one few = absurd (omega (arith, one))
  filled most (suc n) batch [] h one few = absurd (omega (arith, few))
  filled most (suc zero) batch (x ∷ xs) h one few = let full : (length batch + 1 == most) ≡ true = is_full (length batch) most h in rw full refl
  filled most (suc (suc n)) batch (x ∷ xs) h one few =
      let open_ : (length batch + 1 == most) ≡ false = not_full (length batch) most (omega (arith, h)) (omega (arith, h)) in
      let more : length (batch ++ x ∷ []) + suc n ≡ most = omega (arith, h, length-append batch (x ∷ [])) in
      let rest = filled most (suc n) (batch ++ x ∷ []) xs more (omega arith) (omega (arith, few)) in
      rw open_ (rest ∙ ap (λ (l : List A). l ∷ batches_from most [] (drop (suc n) xs)) (append_assoc batch (x ∷ []) (take (suc n) xs)))

  -- and where fewer are left, they are in the last batch
  pub short : (most : ℕ) (batch left : List A) → length batch + length left < most → batches_from most batch left ≡ last_batch (batch ++ left)
  short most batch [] h = ap last_batch (sym (append-nil batch))
  short most batch (x ∷ xs) h =
      let open_ : (length batch + 1 == most) ≡ false = not_full (length batch) most (omega (arith, h)) (omega (arith, h)) in
      let more : length (batch ++ x ∷ []) + length xs < most = omega (arith, h, length-append batch (x ∷ [])) in
      rw open_ (short most (batch ++ x ∷ []) xs more ∙ ap last_batch (append_assoc batch (x ∷ []) xs))

  some_last : (left : List A) → left ≢ [] → last_batch left ≡ left ∷ []
  some_last [] some = absurd (some refl)
  some_last (x ∷ xs) some = refl

  -- the first batch is as many as there may be, or all
  pub first_cut : (most : ℕ) (left : List A) → 1 ≤ most → left ≢ [] → batches most left ≡ take most left ∷ batches most (drop most left)
  first_cut most left one some = by_size (nat_le most (length left)) refl
    where
      by_size : (b : Bool) → nat_le most (length left) ≡ b → batches most left ≡ take most left ∷ batches most (drop most left)
      by_size true is = let all : 0 + most ≡ most = omega arith in filled most most [] left all one (grind (arith, nat_tests, is))
      by_size false is =
          let few : length left < most = grind (arith, nat_tests, is) in
          let all : 0 + length left < most = omega (arith, few) in
          short most [] left all ∙ some_last left some
          ∙ sym (ap (λ (l : List A). l ∷ batches most (drop most left)) (take_whole most left (omega arith))
          ∙ ap (λ (l : List A). left ∷ batches most l) (drop_whole most left (omega arith)))

  -- ---- what is usable

  pub usable : (o : Option (List A)) → is_none o ≡ false → (left : List A) × (o ≡ Some left)
  usable None h = cc
  usable (Some left) h = (left, refl)

-- an import that has begun is usable
pub begun_usable : (found : Result (List StringBinding) ImportFault) (o : Option (List StringBinding)) → begin_import found ≡ Ok o → is_none o ≡ false
begun_usable (Ok bindings) o is = let same : o ≡ Some bindings = cc in ap is_none same
begun_usable (Err fault) o is = absurd cc

-- How many steps are enough: as many as there are objects that were not seen.
use Rattle.std.proofs.Common.{◌≡◌, ℕ, zero, suc, ◌<◌, ◌≤◌, Bool, true, false, not, cond, List, [], ◌∷◌, ◌++◌, length, filter, flat_map, count_by}
use Rattle.std.proofs.Common.{refl, sym, ap, ap₂, ◌∙◌, subst, ⊎_elim, sum_by, arith}
use Rattle.std.proofs.lemmas.List.Sums.{sum_by-cons, sum_by-le-sum_by, count_by-le-length}
use Rattle.std.proofs.lemmas.Bool.{cases_lt}
use Rattle.cds_stamps.specs.Firsts.{has, firsts}
use Rattle.ns_import.specs.DepthFirst.{behind_seen, enter_first, depth_first}
use Rattle.ns_import.specs.Orders.{unfold_paths, order}
use Rattle.ns_import.proofs.Scans.{behind_seen-new, behind_seen-none, front_is_new, front_within, depth_first_ends, depth_first-behind_seen}
use Rattle.ns_import.proofs.Firsts.{or_cases, or_right, by_test, not_both, Within, has_front, has_head, has_last, within_both, within_rest, left_out}

-- ---- counts

weight_falls : (a b : Bool) → (a ≡ true → b ≡ true) → cond (not b) 1 0 ≤ cond (not a) 1 0
weight_falls true true e = omega arith
weight_falls true false e = let never : false ≡ true = e refl in absurd cc
weight_falls false true e = omega arith
weight_falls false false e = omega arith

weight_at : (a b : Bool) → a ≡ false → b ≡ true → cond (not b) 1 0 < cond (not a) 1 0
weight_at true b e f = absurd cc
weight_at false true e f = omega arith
weight_at false false e f = absurd cc

module _ {A : Type 0} (same : A → A → Bool) (objects : List A) where
  -- how many objects were not seen
  abbrev pub unseen : List A → ℕ
  unseen seen = count_by (λ x. not (has same x seen)) objects

module _ {A : Type 0} (same : A → A → Bool) (exact : (x y : A) → same x y ≡ true → x ≡ y) where
  -- a sum falls where one of its terms falls and none rises
  sum_less : (f g : A → ℕ) → ((x : A) → f x ≤ g x) → (xs : List A) (y : A) → has same y xs ≡ true → f y < g y → sum_by f xs < sum_by g xs
  sum_less f g below [] y there less = absurd cc
  sum_less f g below (x ∷ xs) y there less =
      ⊎_elim (λ is. first (subst (λ z. f z < g z) (exact y x is) less) (sum_by-le-sum_by f g xs below))
      (λ rest. later (below x) (sum_less f g below xs y rest less)) (or_cases (same y x) (has same y xs) there)
    where
      first : f x < g x → sum_by f xs ≤ sum_by g xs → sum_by f (x ∷ xs) < sum_by g (x ∷ xs)
      first a b = rw (sum_by-cons f x xs, sum_by-cons g x xs) (omega arith)

      later : f x ≤ g x → sum_by f xs < sum_by g xs → sum_by f (x ∷ xs) < sum_by g (x ∷ xs)
      later a b = rw (sum_by-cons f x xs, sum_by-cons g x xs) (omega arith)

module _ {A : Type 0} (same : A → A → Bool) (exact : (x y : A) → same x y ≡ true → x ≡ y) (itself : (x : A) → same x x ≡ true) (objects : List A) where
  -- the measure falls: once an object is seen that was not, fewer are unseen
  pub unseen_falls : (seen : List A) (f : A) → has same f objects ≡ true → has same f seen ≡ false
      → unseen same objects (seen ++ f ∷ []) < unseen same objects seen
  unseen_falls seen f there new =
      sum_less same exact (λ x. cond (not (has same x (seen ++ f ∷ []))) 1 0) (λ x. cond (not (has same x seen)) 1 0)
      (λ x. weight_falls (has same x seen) (has same x (seen ++ f ∷ [])) (has_front same x seen (f ∷ []))) objects f there
      (weight_at (has same f seen) (has same f (seen ++ f ∷ [])) new (has_last same itself f seen))

  -- where no object is unseen, each was seen
  unseen_none : (seen : List A) (f : A) → has same f objects ≡ true → unseen same objects seen ≤ 0 → has same f seen ≡ true
  unseen_none seen f there none =
      by_test (has same f seen) (λ is. is) (λ new. let falls = unseen_falls seen f there new in absurd (omega arith))

  -- no more are unseen than there are objects
  pub unseen_at_most : (seen : List A) → unseen same objects seen ≤ length objects
  unseen_at_most seen = count_by-le-length (λ x. not (has same x seen)) objects

  -- an object that was not seen needs a step
  pub needs_step : (seen : List A) (f : A) → has same f objects ≡ true → has same f seen ≡ false → unseen same objects seen ≤ 0 → ⊥
  needs_step seen f there new none = not_both (has same f seen) (unseen_none seen f there none) new

  -- the measure falls where the first item that waits and was not seen is entered
  pub unseen_falls_at_front : (seen rest : List A) (f : A) (fs : List A) → Within same objects rest → behind_seen same seen rest ≡ f ∷ fs
      → unseen same objects (seen ++ f ∷ []) < unseen same objects seen
  unseen_falls_at_front seen rest f fs w e =
      unseen_falls seen f (w f (front_within same seen rest f fs e f (has_head same itself f fs))) (front_is_new same seen rest f fs e)

-- ---- enough steps for the search

module _ {A : Type 0} (same : A → A → Bool) (exact : (x y : A) → same x y ≡ true → x ≡ y) (itself : (x : A) → same x x ≡ true) (edges : A → List A)
    (objects : List A) (lands : (e : A) → Within same objects (edges e)) where
  -- where no object is unseen, a search of objects is at its end
  nothing_new : (steps : ℕ) (seen rest : List A) → Within same objects rest → unseen same objects seen ≤ 0 → depth_first same edges steps seen rest ≡ []
  nothing_new steps seen rest w none =
      depth_first_ends same edges steps seen rest
      (behind_seen-none same seen rest itself (λ x h. unseen_none same exact itself objects seen x (w x h) none))

  -- after an item that is entered the search stays among the objects
  stays_within : (f : A) (rest : List A) → Within same objects rest → Within same objects (edges f ++ rest)
  stays_within f rest w = within_both same objects (edges f) rest (lands f) w

  -- with as many steps as objects are unseen, or more, a search comes to the same
  depth_first_enough : (k m : ℕ) (seen rest : List A) → Within same objects rest → unseen same objects seen ≤ k → unseen same objects seen ≤ m
      → depth_first same edges k seen rest ≡ depth_first same edges m seen rest
  depth_first_enough zero m seen rest w few some = sym (nothing_new m seen rest w few)
  depth_first_enough (suc k) zero seen rest w few some = nothing_new (suc k) seen rest w some
  depth_first_enough (suc k) (suc m) seen rest w few some = by_front (behind_seen same seen rest) refl (depth_first_enough k m)
    where
      by_front : (left : List A) → behind_seen same seen rest ≡ left
          → ((seen rest : List A) → Within same objects rest → unseen same objects seen ≤ k → unseen same objects seen ≤ m
          → depth_first same edges k seen rest ≡ depth_first same edges m seen rest)
          → enter_first same edges (λ s r. depth_first same edges k s r) seen left ≡ enter_first same edges (λ s r. depth_first same edges m s r) seen left
      by_front [] e later = refl
      by_front (f ∷ fs) e later =
          let waited : Within same objects (f ∷ fs) = λ x h. w x (front_within same seen rest f fs e x h) in
          let falls = unseen_falls_at_front same exact itself objects seen rest f fs w e in
          ap (λ (l : List A). f ∷ l)
          (later (seen ++ f ∷ []) (edges f ++ fs) (stays_within f fs (within_rest same objects f fs waited)) (omega arith) (omega arith))

  -- an object that was not seen is entered, and its edges come before what waits
  pub depth_first-new : (seen : List A) (f : A) (rest : List A) → has same f seen ≡ false → has same f objects ≡ true → Within same objects rest
      → depth_first same edges (length objects) seen (f ∷ rest) ≡ f ∷ depth_first same edges (length objects) (seen ++ f ∷ []) (edges f ++ rest)
  depth_first-new seen f rest new there w = entered (length objects) (unseen_at_most same exact itself objects seen)
    where
      entered : (k : ℕ) → unseen same objects seen ≤ k
          → depth_first same edges k seen (f ∷ rest) ≡ f ∷ depth_first same edges k (seen ++ f ∷ []) (edges f ++ rest)
      entered zero enough = absurd (needs_step same exact itself objects seen f there new enough)
      entered (suc k) enough =
          let falls = unseen_falls same exact itself objects seen f there new in
          ap (enter_first same edges (λ s r. depth_first same edges k s r) seen) (behind_seen-new same seen f rest new)
          ∙ ap (λ (l : List A). f ∷ l)
          (depth_first_enough k (suc k) (seen ++ f ∷ []) (edges f ++ rest) (stays_within f rest w) (omega arith) (omega arith))

  -- the first item that waits and was not seen is entered, and its edges come before what waits
  -- after it
  pub depth_first_goes_on : (seen rest : List A) (f : A) (fs : List A) → Within same objects rest → behind_seen same seen rest ≡ f ∷ fs
      → depth_first same edges (length objects) seen rest ≡ f ∷ depth_first same edges (length objects) (seen ++ f ∷ []) (edges f ++ fs)
  depth_first_goes_on seen rest f fs w e =
      let waited : Within same objects (f ∷ fs) = λ x h. w x (front_within same seen rest f fs e x h) in
      depth_first-behind_seen same edges (length objects) seen rest ∙ ap (depth_first same edges (length objects) seen) e
      ∙ depth_first-new seen f fs (front_is_new same seen rest f fs e) (waited f (has_head same itself f fs)) (within_rest same objects f fs waited)

-- ---- enough steps for the order

-- what two functions make of the items of a list is the same where they agree on these
flat_map_same : {A B : Type 0} (same : A → A → Bool) (itself : (x : A) → same x x ≡ true) (g h : A → List B) (xs : List A)
    → ((x : A) → has same x xs ≡ true → g x ≡ h x) → flat_map g xs ≡ flat_map h xs
flat_map_same {A} {B} same itself g h [] agree = refl
flat_map_same {A} {B} same itself g h (x ∷ xs) agree =
    ap₂ (λ (front back : List B). front ++ back) (agree x (has_head same itself x xs))
    (flat_map_same same itself g h xs (λ y there. agree y (or_right (same y x) (has same y xs) there)))

module _ {A : Type 0} (same : A → A → Bool) (exact : (x y : A) → same x y ≡ true → x ≡ y) (itself : (x : A) → same x x ≡ true) (edges : A → List A)
    (objects : List A) (lands : (e : A) → Within same objects (edges e)) where
  -- with as many steps as objects are not on the path, or more, the paths come to the same
  unfolded_enough : (k m : ℕ) (path : List A) (e : A) → has same e objects ≡ true → has same e path ≡ false
      → unseen same objects path ≤ k → unseen same objects path ≤ m → unfold_paths same edges k path e ≡ unfold_paths same edges m path e
  unfolded_enough zero m path e there new few some = absurd (needs_step same exact itself objects path e there new few)
  unfolded_enough (suc k) zero path e there new few some = absurd (needs_step same exact itself objects path e there new some)
  unfolded_enough (suc k) (suc m) path e there new few some =
      let falls = unseen_falls same exact itself objects path e there new in
      ap (λ (l : List A). e ∷ l)
      (flat_map_same same itself (λ f. unfold_paths same edges k (path ++ e ∷ []) f) (λ f. unfold_paths same edges m (path ++ e ∷ []) f)
      (filter (λ f. not (has same f (path ++ e ∷ []))) (edges e))
      (λ f kept. let out = left_out same exact (path ++ e ∷ []) (edges e) f kept in
      unfolded_enough k m (path ++ e ∷ []) f (lands e f out.0) out.1 (omega arith) (omega arith)))

  -- more steps than there are objects change nothing
  pub more_steps_change_nothing : (steps : ℕ) (e : A) → has same e objects ≡ true → length objects ≤ steps
      → order same edges (length objects) e ≡ order same edges steps e
  more_steps_change_nothing steps e there enough =
      let most = unseen_at_most same exact itself objects [] in
      ap (firsts same []) (unfolded_enough (length objects) steps [] e there refl most (omega arith))

-- two lists that both have all objects give one order
pub order_of_one_list : {A : Type 0} (same : A → A → Bool) (exact : (x y : A) → same x y ≡ true → x ≡ y) (itself : (x : A) → same x x ≡ true)
    (edges : A → List A) (objects others : List A) → ((e : A) → Within same objects (edges e)) → ((e : A) → Within same others (edges e))
    → (e : A) → has same e objects ≡ true → has same e others ≡ true → order same edges (length others) e ≡ order same edges (length objects) e
order_of_one_list same exact itself edges objects others lands lands_too e there there_too =
    ⊎_elim (λ (less : length objects < length others).
    sym (more_steps_change_nothing same exact itself edges objects lands (length others) e there (omega arith)))
    (more_steps_change_nothing same exact itself edges others lands_too (length objects) e there_too) (cases_lt (length objects) (length others))

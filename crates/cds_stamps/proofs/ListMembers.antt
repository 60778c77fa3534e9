-- What is in a list: after a first item, in a list that a function makes of another, and in what
-- passes a test.
use Rattle.std.proofs.Common.{◌≡◌, Bool, true, false, cond, List, [], ◌∷◌, map, refl, sym, ap, subst, ◌∙◌, ◌⊎◌, inl, inr, ⊎_elim, arith}
use Rattle.std.specs.Prelude.{filter}
use Rattle.std.specs.List.{Contains, flat_map}
use Rattle.std.proofs.lemmas.List.Elements.{Contains-append_left, Contains-append_right, Contains-append_cases, Contains-push, Contains-push_cases}

-- the first item is in a list
pub Contains-head : {A : Type 0} (x : A) (xs : List A) → Contains (x ∷ xs) x
Contains-head x xs = Contains-append_left (x ∷ []) xs x (Contains-push [] x)

-- what is in a list is after one more item
pub Contains-tail : {A : Type 0} (y : A) (xs : List A) (x : A) → Contains xs x → Contains (y ∷ xs) x
Contains-tail y xs x h = Contains-append_right (y ∷ []) xs x h

-- nothing is in the empty list
pub Contains-none : {A : Type 0} (x : A) → Contains [] x → ⊥
Contains-none x h = omega (arith, h.1)

-- what is in a list is the first item or is after it
pub Contains-cases : {A : Type 0} (y : A) (xs : List A) (x : A) → Contains (y ∷ xs) x → (y ≡ x) ⊎ Contains xs x
Contains-cases y xs x h =
    ⊎_elim (λ one. ⊎_elim (λ no. absurd (Contains-none x no)) inl (Contains-push_cases [] y x one)) inr (Contains-append_cases (y ∷ []) xs x h)

-- what a function makes of an item is in what it makes of the list
pub Contains-map : {A B : Type 0} (f : A → B) (xs : List A) (x : A) → Contains xs x → Contains (map f xs) (f x)
Contains-map f [] x c = absurd (Contains-none x c)
Contains-map f (y ∷ xs) x c =
    ⊎_elim (λ is. subst (λ z. Contains (map f (y ∷ xs)) (f z)) is (Contains-head (f y) (map f xs)))
    (λ rest. Contains-tail (f y) (map f xs) (f x) (Contains-map f xs x rest)) (Contains-cases y xs x c)

-- and whatever is there was made of an item
pub map-Contains : {A B : Type 0} (f : A → B) (xs : List A) (y : B) → Contains (map f xs) y → (x : A) × Contains xs x × (f x ≡ y)
map-Contains f [] y c = absurd (Contains-none y c)
map-Contains {A} f (x ∷ xs) y c =
    ⊎_elim (λ is. (x, Contains-head x xs, is)) (λ rest. later (map-Contains f xs y rest)) (Contains-cases (f x) (map f xs) y c)
  where
    later : ((z : A) × Contains xs z × (f z ≡ y)) → (z : A) × Contains (x ∷ xs) z × (f z ≡ y)
    later found = (found.0, Contains-tail x xs found.0 found.1, found.2)

-- what is in what a function makes of an item is in what it makes of the list
pub Contains-flat_map : {A B : Type 0} (f : A → List B) (xs : List A) (x : A) (y : B) → Contains xs x → Contains (f x) y → Contains (flat_map f xs) y
Contains-flat_map f [] x y at there = absurd (Contains-none x at)
Contains-flat_map f (z ∷ zs) x y at there =
    ⊎_elim (λ is. Contains-append_left (f z) (flat_map f zs) y (subst (λ w. Contains (f w) y) (sym is) there))
    (λ later. Contains-append_right (f z) (flat_map f zs) y (Contains-flat_map f zs x y later there)) (Contains-cases z zs x at)

-- and whatever is there is in what the function makes of an item
pub flat_map-Contains : {A B : Type 0} (f : A → List B) (xs : List A) (y : B) → Contains (flat_map f xs) y → (x : A) × Contains xs x × Contains (f x) y
flat_map-Contains f [] y c = absurd (Contains-none y c)
flat_map-Contains {A} f (x ∷ xs) y c =
    ⊎_elim (λ here. (x, Contains-head x xs, here)) (λ rest. later (flat_map-Contains f xs y rest)) (Contains-append_cases (f x) (flat_map f xs) y c)
  where
    later : ((z : A) × Contains xs z × Contains (f z) y) → (z : A) × Contains (x ∷ xs) z × Contains (f z) y
    later found = (found.0, Contains-tail x xs found.0 found.1, found.2)

module _ {A : Type 0} (p : A → Bool) where
  kept_first : (x : A) (xs : List A) (t : Bool) → t ≡ true → Contains (cond t (x ∷ xs) xs) x
  kept_first x xs true e = Contains-head x xs
  kept_first x xs false e = cc

  kept_later : (x y : A) (xs : List A) (t : Bool) → Contains xs y → Contains (cond t (x ∷ xs) xs) y
  kept_later x y xs true c = Contains-tail x xs y c
  kept_later x y xs false c = c

  -- an item that passes is in what passes
  pub Contains-filter : (xs : List A) (x : A) → Contains xs x → p x ≡ true → Contains (filter p xs) x
  Contains-filter [] x c pass = absurd (Contains-none x c)
  Contains-filter (y ∷ xs) x c pass =
      ⊎_elim (λ is. subst (Contains (filter p (y ∷ xs))) is (kept_first y (filter p xs) (p y) (ap p is ∙ pass)))
      (λ rest. kept_later y x (filter p xs) (p y) (Contains-filter xs x rest pass)) (Contains-cases y xs x c)

  -- and whatever is there passes, and stood in the list
  pub filter-Contains : (xs : List A) (x : A) → Contains (filter p xs) x → Contains xs x × (p x ≡ true)
  filter-Contains [] x c = absurd (Contains-none x c)
  filter-Contains (y ∷ xs) x c = by_test (p y) refl (filter-Contains xs x) c
    where
      by_test : (t : Bool) → p y ≡ t → (Contains (filter p xs) x → Contains xs x × (p x ≡ true)) → Contains (cond t (y ∷ filter p xs) (filter p xs)) x
          → Contains (y ∷ xs) x × (p x ≡ true)
      by_test true e later d =
          ⊎_elim (λ is. (subst (Contains (y ∷ xs)) is (Contains-head y xs), ap p (sym is) ∙ e))
          (λ rest. let found = later rest in (Contains-tail y xs x found.0, found.1)) (Contains-cases y (filter p xs) x d)
      by_test false e later d = let found = later d in (Contains-tail y xs x found.0, found.1)

-- Lists by the test for sameness: what has an item, which list is within another, and where items
-- come first.
use Rattle.std.proofs.Common.{◌≡◌, ◌⊎◌, inl, inr, ⊎_elim, Bool, true, false, not, cond, List, [], ◌∷◌, ◌++◌, filter, flat_map, Contains, refl}
use Rattle.std.proofs.Common.{sym, ap, ◌∙◌, subst, append_assoc, append-nil}
use Rattle.std.specs.Prelude.{◌||◌, Option, Some, None, filter_map, if◌then◌else◌}
use Rattle.std.specs.List.{cons_option}
use Rattle.std.proofs.lemmas.List.Folds.{list_any-append, list_any_at}
use Rattle.std.proofs.lemmas.Map.Views.{Contains-from_any}
use Rattle.cds_stamps.specs.Firsts.{has, if_new, firsts}

-- ---- tests

-- one of two tests
pub or_cases : (a b : Bool) → (a || b) ≡ true → (a ≡ true) ⊎ (b ≡ true)
or_cases true b e = inl refl
or_cases false b e = inr e

-- the first, or the second
or_left : (a b : Bool) → a ≡ true → (a || b) ≡ true
or_left true b e = refl
or_left false b e = absurd cc

-- one of two tests holds where the second does
pub or_right : (a b : Bool) → b ≡ true → (a || b) ≡ true
or_right true b e = refl
or_right false b e = e

-- neither of two tests
pub or_none : (a b : Bool) → a ≡ false → b ≡ false → (a || b) ≡ false
or_none true b e f = absurd cc
or_none false b e f = f

not_back : (b : Bool) → not b ≡ true → b ≡ false
not_back true e = absurd cc
not_back false e = refl

-- what a test decides, one way or the other
pub by_test : {P : Type 0} (b : Bool) → (b ≡ true → P) → (b ≡ false → P) → P
by_test true is is_not = is refl
by_test false is is_not = is_not refl

-- a test is not both
pub not_both : {P : Type 0} (b : Bool) → b ≡ true → b ≡ false → P
not_both b is is_not = let never : true ≡ false = sym is ∙ is_not in absurd cc

-- ---- membership by a test

module _ {A : Type 0} (same : A → A → Bool) where
  -- the first list has each item of the second
  abbrev pub Within : (all some : List A) → Type 0
  Within all some = (x : A) → has same x some ≡ true → has same x all ≡ true

  -- what the first part has, the whole has
  pub has_front : (x : A) (xs ys : List A) → has same x xs ≡ true → has same x (xs ++ ys) ≡ true
  has_front x xs ys e = list_any-append (same x) xs ys ∙ or_left (has same x xs) (has same x ys) e

  -- what the second part has, the whole has
  pub has_rest : (x : A) (xs ys : List A) → has same x ys ≡ true → has same x (xs ++ ys) ≡ true
  has_rest x xs ys e = list_any-append (same x) xs ys ∙ or_right (has same x xs) (has same x ys) e

  -- and what the whole has, a part has
  has_parts : (x : A) (xs ys : List A) → has same x (xs ++ ys) ≡ true → (has same x xs ≡ true) ⊎ (has same x ys ≡ true)
  has_parts x xs ys e = or_cases (has same x xs) (has same x ys) (sym (list_any-append (same x) xs ys) ∙ e)

  -- what neither part has, the whole doesn't have
  pub has_neither : (x : A) (xs ys : List A) → has same x xs ≡ false → has same x ys ≡ false → has same x (xs ++ ys) ≡ false
  has_neither x xs ys e f = list_any-append (same x) xs ys ∙ or_none (has same x xs) (has same x ys) e f

  -- within a list is within a longer one
  pub within_longer : (all more some : List A) → Within all some → Within (all ++ more) some
  within_longer all more some w x h = has_front x all more (w x h)

  -- two parts that are within a list are within it together
  pub within_both : (all xs ys : List A) → Within all xs → Within all ys → Within all (xs ++ ys)
  within_both all xs ys w v x h = ⊎_elim (w x) (v x) (has_parts x xs ys h)

  -- and so is each part of what is
  pub within_rest : (all : List A) (f : A) (fs : List A) → Within all (f ∷ fs) → Within all fs
  within_rest all f fs w x h = w x (or_right (same x f) (has same x fs) h)

  module _ (itself : (x : A) → same x x ≡ true) where
    -- the first item is in the list
    pub has_head : (x : A) (xs : List A) → has same x (x ∷ xs) ≡ true
    has_head x xs = or_left (same x x) (has same x xs) (itself x)

    -- the last item is in the list
    pub has_last : (x : A) (xs : List A) → has same x (xs ++ x ∷ []) ≡ true
    has_last x xs = has_rest x xs (x ∷ []) (has_head x [])

    -- what is in a list, the test finds
    pub has_from : (x : A) (xs : List A) → Contains xs x → has same x xs ≡ true
    has_from x xs c = list_any_at (same x) xs c.0 x c.1 (ap (same x) c.2 ∙ itself x)

    -- what comes of the items of a list comes of one of them
    pub flat_map_has : (g : A → List A) (xs : List A) (x : A) → has same x (flat_map g xs) ≡ true
        → (y : A) × (has same y xs ≡ true) × (has same x (g y) ≡ true)
    flat_map_has g [] x h = absurd cc
    flat_map_has g (y ∷ ys) x h = ⊎_elim (λ one. (y, has_head y ys, one)) (λ rest. later (flat_map_has g ys x rest)) (has_parts x (g y) (flat_map g ys) h)
      where
        later : ((z : A) × (has same z ys ≡ true) × (has same x (g z) ≡ true)) → (z : A) × (has same z (y ∷ ys) ≡ true) × (has same x (g z) ≡ true)
        later found = (found.0, or_right (same found.0 y) (has same found.0 ys) found.1, found.2)

  module _ (exact : (x y : A) → same x y ≡ true → x ≡ y) where
    -- what a list with one item has is that item
    only_one : (x f : A) → has same x (f ∷ []) ≡ true → x ≡ f
    only_one x f h = ⊎_elim (exact x f) (λ none. absurd cc) (or_cases (same x f) false h)

    -- what the test finds is in the list
    pub has_stands : (x : A) (xs : List A) → has same x xs ≡ true → Contains xs x
    has_stands x xs h = Contains-from_any exact x xs h

    -- what a list with one more has, it had, or it is that one
    pub has_before_last : (x : A) (xs : List A) (f : A) → has same x (xs ++ f ∷ []) ≡ true → (has same x xs ≡ true) ⊎ (x ≡ f)
    has_before_last x xs f h = ⊎_elim inl (λ one. inr (only_one x f one)) (has_parts x xs (f ∷ []) h)

    -- what a function finds for names is within a list that has each item that it may find
    pub within_found : {X : Type 0} (find : X → Option A) (names : List X) (all : List A) → ((n : X) (f : A) → find n ≡ Some f → has same f all ≡ true)
        → Within all (filter_map find names)
    within_found find [] all listed x h = absurd cc
    within_found find (n ∷ ns) all listed x h = by_found (find n) refl (within_found find ns all listed x) h
      where
        by_found : (o : Option A) → find n ≡ o → (has same x (filter_map find ns) ≡ true → has same x all ≡ true)
            → has same x (cons_option o (filter_map find ns)) ≡ true → has same x all ≡ true
        by_found None e later d = later d
        by_found (Some f) e later d =
            ⊎_elim (λ is. subst (λ z. has same z all ≡ true) (sym (exact x f is)) (listed n f e)) later
            (or_cases (same x f) (has same x (filter_map find ns)) d)

    -- what passes a filter is in the list, and passes
    filter_has : (test : A → Bool) (xs : List A) (x : A) → has same x (filter test xs) ≡ true → (has same x xs ≡ true) × (test x ≡ true)
    filter_has test [] x h = absurd cc
    filter_has test (y ∷ ys) x h = passes (test y) refl (filter_has test ys x) h
      where
        passes : (t : Bool) → test y ≡ t → (has same x (filter test ys) ≡ true → (has same x ys ≡ true) × (test x ≡ true))
            → has same x (cond t (y ∷ filter test ys) (filter test ys)) ≡ true → (has same x (y ∷ ys) ≡ true) × (test x ≡ true)
        passes true e later d =
            ⊎_elim (λ is. (or_left (same x y) (has same x ys) is, ap test (exact x y is) ∙ e))
            (λ rest. let kept = later rest in (or_right (same x y) (has same x ys) kept.0, kept.1)) (or_cases (same x y) (has same x (filter test ys)) d)
        passes false e later d = let kept = later d in (or_right (same x y) (has same x ys) kept.0, kept.1)

    -- what is left of a list without another's items is in the list, and is none of the other's
    pub left_out : (path xs : List A) (x : A) → has same x (filter (λ f. not (has same f path)) xs) ≡ true
        → (has same x xs ≡ true) × (has same x path ≡ false)
    left_out path xs x h = let kept = filter_has (λ f. not (has same f path)) xs x h in (kept.0, not_back (has same x path) kept.1)

    -- what is left of the rest, where the first item is another's
    pub filter_old : (path : List A) (f : A) (fs : List A) → has same f path ≡ true
        → filter (λ g. not (has same g path)) (f ∷ fs) ≡ filter (λ g. not (has same g path)) fs
    filter_old path f fs e = ap (λ b. cond (not b) (f ∷ filter (λ g. not (has same g path)) fs) (filter (λ g. not (has same g path)) fs)) e

    -- and where it is not
    pub filter_new : (path : List A) (f : A) (fs : List A) → has same f path ≡ false
        → filter (λ g. not (has same g path)) (f ∷ fs) ≡ f ∷ filter (λ g. not (has same g path)) fs
    filter_new path f fs e = ap (λ b. cond (not b) (f ∷ filter (λ g. not (has same g path)) fs) (filter (λ g. not (has same g path)) fs)) e

-- ---- first places

module _ {A : Type 0} (same : A → A → Bool) where
  nothing_added : (seen xs : List A) → firsts same (seen ++ []) xs ≡ firsts same seen xs
  nothing_added seen xs = ap (λ (s : List A). firsts same s xs) (append-nil seen)

  -- an item that was seen has no first place
  firsts_old : (seen : List A) (x : A) (xs : List A) → has same x seen ≡ true → firsts same seen (x ∷ xs) ≡ firsts same seen xs
  firsts_old seen x xs e = ap (λ b. (if b then [] else x ∷ []) ++ firsts same (seen ++ (if b then [] else x ∷ [])) xs) e ∙ nothing_added seen xs

  -- one that was not has its first place here
  pub firsts_new : (seen : List A) (x : A) (xs : List A) → has same x seen ≡ false
      → firsts same seen (x ∷ xs) ≡ x ∷ firsts same (seen ++ x ∷ []) xs
  firsts_new seen x xs e = ap (λ b. (if b then [] else x ∷ []) ++ firsts same (seen ++ (if b then [] else x ∷ [])) xs) e

  -- the first places of two parts: those of the first, and after these those of the second
  pub firsts_parts : (seen xs ys : List A) → firsts same seen (xs ++ ys) ≡ firsts same seen xs ++ firsts same (seen ++ firsts same seen xs) ys
  firsts_parts seen [] ys = sym (nothing_added seen ys)
  firsts_parts seen (x ∷ xs) ys =
      together (if_new same seen x) (firsts same (seen ++ if_new same seen x) xs) (firsts_parts (seen ++ if_new same seen x) xs ys)
    where
      together : (one more : List A) → firsts same (seen ++ one) (xs ++ ys) ≡ more ++ firsts same ((seen ++ one) ++ more) ys
          → one ++ firsts same (seen ++ one) (xs ++ ys) ≡ (one ++ more) ++ firsts same (seen ++ (one ++ more)) ys
      together one more later =
          ap (λ (l : List A). one ++ l) later ∙ ap (λ (s : List A). one ++ (more ++ firsts same s ys)) (append_assoc seen one more)
          ∙ sym (append_assoc one more (firsts same (seen ++ (one ++ more)) ys))

  -- a list within what was seen has no first places
  firsts_none : (seen xs : List A) → Within same seen xs → ((x : A) → same x x ≡ true) → firsts same seen xs ≡ []
  firsts_none seen [] w itself = refl
  firsts_none seen (x ∷ xs) w itself =
      firsts_old seen x xs (w x (has_head same itself x xs)) ∙ firsts_none seen xs (within_rest same seen x xs w) itself

  -- nor does such a list in front change those of the rest
  pub firsts_passed : ((x : A) → same x x ≡ true) → (seen xs ys : List A) → Within same seen xs → firsts same seen (xs ++ ys) ≡ firsts same seen ys
  firsts_passed itself seen xs ys w =
      firsts_parts seen xs ys ∙ ap (λ (l : List A). l ++ firsts same (seen ++ l) ys) (firsts_none seen xs w itself) ∙ nothing_added seen ys

  -- each first place is that of an item
  pub firsts_within : (seen xs : List A) → Within same xs (firsts same seen xs)
  firsts_within seen [] x h = h
  firsts_within seen (x ∷ xs) y h =
      ⊎_elim (one (has same x seen)) (λ rest. or_right (same y x) (has same y xs) (firsts_within (seen ++ if_new same seen x) xs y rest))
      (has_parts same y (if_new same seen x) (firsts same (seen ++ if_new same seen x) xs) h)
    where
      one : (b : Bool) → has same y (if b then [] else x ∷ []) ≡ true → has same y (x ∷ xs) ≡ true
      one true h = absurd cc
      one false h = ⊎_elim (or_left (same y x) (has same y xs)) (λ none. absurd cc) (or_cases (same y x) false h)

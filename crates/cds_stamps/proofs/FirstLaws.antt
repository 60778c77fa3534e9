-- First places have the items of the list, each once; and the first that passes, in lists joined to
-- one.
use Rattle.std.proofs.Common.{◌≡◌, Bool, true, false, List, [], ◌∷◌, ◌++◌, refl, sym, ap, ◌∙◌, append-nil}
use Rattle.std.specs.Prelude.{◌||◌, if◌then◌else◌}
use Rattle.std.specs.List.{AllByRecursion, IsDistinct, find, flat_map}
use Rattle.std.specs.Option.{option_or}
use Rattle.std.proofs.lemmas.List.Folds.{find-append, list_any-append}
use Rattle.cds_stamps.specs.Firsts.{first_some, has, firsts}

-- the first that passes in lists joined to one is the first that passes in one of them
pub find-flat_map : {A B : Type 0} (p : B → Bool) (f : A → List B) (xs : List A) → find p (flat_map f xs) ≡ first_some (λ x. find p (f x)) xs
find-flat_map p f [] = refl
find-flat_map p f (x ∷ xs) = find-append p (f x) (flat_map f xs) ∙ ap (option_or (find p (f x))) (find-flat_map p f xs)

module _ {A : Type 0} (same : A → A → Bool) (exact : (x y : A) → same x y ≡ true → x ≡ y) (itself : (x : A) → same x x ≡ true) where
  -- after one more that was seen
  seen_more : (seen : List A) (y x : A) → has same x (seen ++ y ∷ []) ≡ (has same x seen || (same x y || false))
  seen_more seen y x = list_any-append (same x) seen (y ∷ [])

  drop_old : (seen xs : List A) → firsts same (seen ++ []) xs ≡ firsts same seen xs
  drop_old seen xs = ap (λ (s : List A). firsts same s xs) (append-nil seen)

  -- seen or among the first places is seen or in the list
  firsts-content : (seen xs : List A) (x : A) → (has same x seen || has same x (firsts same seen xs)) ≡ (has same x seen || has same x xs)
  firsts-content seen [] x = refl
  firsts-content seen (y ∷ ys) x = by_seen (has same y seen) refl (firsts-content seen ys x) (firsts-content (seen ++ y ∷ []) ys x)
    where
      old : (a b c d : Bool) → (b ≡ true → a ≡ true) → (a || c) ≡ (a || d) → (a || c) ≡ (a || (b || d))
      old true b c d known e = refl
      old false true c d known e = let never : false ≡ true = known refl in absurd cc
      old false false c d known e = e

      new : (a b c d : Bool) → ((a || (b || false)) || c) ≡ ((a || (b || false)) || d) → (a || (b || c)) ≡ (a || (b || d))
      new true b c d e = refl
      new false true c d e = refl
      new false false c d e = e

      by_seen : (t : Bool) → has same y seen ≡ t → (has same x seen || has same x (firsts same seen ys)) ≡ (has same x seen || has same x ys)
          → (has same x (seen ++ y ∷ []) || has same x (firsts same (seen ++ y ∷ []) ys)) ≡ (has same x (seen ++ y ∷ []) || has same x ys)
          → (has same x seen || has same x ((if t then [] else y ∷ []) ++ firsts same (seen ++ (if t then [] else y ∷ [])) ys))
          ≡ (has same x seen || (same x y || has same x ys))
      by_seen true e first later =
          ap (λ (fs : List A). has same x seen || has same x fs) (drop_old seen ys)
          ∙ old (has same x seen) (same x y) (has same x (firsts same seen ys)) (has same x ys) (λ is. ap (λ z. has same z seen) (exact x y is) ∙ e) first
      by_seen false e first later =
          new (has same x seen) (same x y) (has same x (firsts same (seen ++ y ∷ []) ys)) (has same x ys)
          (ap (λ b. b || has same x (firsts same (seen ++ y ∷ []) ys)) (sym (seen_more seen y x)) ∙ later ∙ ap (λ b. b || has same x ys) (seen_more seen y x))

  -- what was seen is no first place
  firsts-apart : (seen xs : List A) (x : A) → has same x seen ≡ true → has same x (firsts same seen xs) ≡ false
  firsts-apart seen [] x there = refl
  firsts-apart seen (y ∷ ys) x there = by_seen (has same y seen) refl (firsts-apart seen ys x there) (firsts-apart (seen ++ y ∷ []) ys x)
    where
      differs : (b : Bool) → same x y ≡ b → has same y seen ≡ false → same x y ≡ false
      differs true is e = let never : true ≡ false = sym there ∙ ap (λ z. has same z seen) (exact x y is) ∙ e in absurd cc
      differs false is e = is

      by_seen : (t : Bool) → has same y seen ≡ t → has same x (firsts same seen ys) ≡ false
          → (has same x (seen ++ y ∷ []) ≡ true → has same x (firsts same (seen ++ y ∷ []) ys) ≡ false)
          → has same x ((if t then [] else y ∷ []) ++ firsts same (seen ++ (if t then [] else y ∷ [])) ys) ≡ false
      by_seen true e first later = ap (has same x) (drop_old seen ys) ∙ first
      by_seen false e first later =
          ap (λ b. b || has same x (firsts same (seen ++ y ∷ []) ys)) (differs (same x y) refl e)
          ∙ later (seen_more seen y x ∙ ap (λ b. b || (same x y || false)) there)

  none_same : (y : A) (xs : List A) → has same y xs ≡ false → AllByRecursion (λ z. same y z ≡ false) xs
  none_same y [] none = tt
  none_same y (x ∷ xs) none = (front (same y x) (has same y xs) none, none_same y xs (back (same y x) (has same y xs) none))
    where
      front : (a b : Bool) → (a || b) ≡ false → a ≡ false
      front true b e = e
      front false b e = refl

      back : (a b : Bool) → (a || b) ≡ false → b ≡ false
      back true b e = absurd cc
      back false b e = e

  -- each first place differs from those after it
  pub firsts-once : (seen xs : List A) → IsDistinct same (firsts same seen xs)
  unfolding IsDistinct
  firsts-once seen [] = tt
  firsts-once seen (y ∷ ys) = by_seen (has same y seen) (firsts-once (seen ++ []) ys) (firsts-once (seen ++ y ∷ []) ys)
    where
      now_seen : has same y (seen ++ y ∷ []) ≡ true
      now_seen = seen_more seen y y ∙ last (has same y seen) (same y y) (itself y)
        where
          last : (a b : Bool) → b ≡ true → (a || (b || false)) ≡ true
          last true b e = refl
          last false true e = refl
          last false false e = e

      by_seen : (t : Bool) → IsDistinct same (firsts same (seen ++ []) ys) → IsDistinct same (firsts same (seen ++ y ∷ []) ys)
          → IsDistinct same ((if t then [] else y ∷ []) ++ firsts same (seen ++ (if t then [] else y ∷ [])) ys)
      by_seen true first later = first
      by_seen false first later = (none_same y (firsts same (seen ++ y ∷ []) ys) (firsts-apart (seen ++ y ∷ []) ys y now_seen), later)

  -- the first places of a list have its items
  pub firsts-has : (xs : List A) (x : A) → has same x (firsts same [] xs) ≡ has same x xs
  firsts-has xs x = firsts-content [] xs x

-- Faults that are found item by item: what is after the fault is not read, and what is before it
-- may go on.
use Rattle.std.proofs.Common.{◌≡◌, ℕ, suc, ◌+◌, ◌-◌, ◌<◌, List, [], ◌∷◌, ◌++◌, length, take}
use Rattle.std.proofs.Common.{get_or, Option, Some, None, refl, sym, ap, ◌∙◌, ◌⊎◌, inl, inr, subst, arith}
use Rattle.cds_stamps.specs.Fronts.{IsFront, IsFirstBad}

some_one : {E : Type 0} (x y : E) → Some x ≡ Some y → x ≡ y
some_one x y e = cc

-- a fault that is told item by item, by a state that each item without a fault leads on
module _ {A S E : Type 0} (fault : S → List A → Option E) (step : S → A → E ⊎ S) (at : S → ℕ) where
  -- what a step leaves to be found in the rest
  abbrev pub after : E ⊎ S → List A → Option E
  after (inl e) xs = Some e
  after (inr s) xs = fault s xs

  -- each item is a step, one place on
  pub record IsWalk : Type 0 where
    pub steps : (s : S) (x : A) (xs : List A) → fault s (x ∷ xs) ≡ after (step s x) xs
    pub counts : (s t : S) (x : A) → step s x ≡ inr t → at t ≡ at s + 1

  -- the item after the first k is the fault
  pub record IsBad (s : S) (xs : List A) (e : E) (k : ℕ) (state : S) : Type 0 where
    pub inside : k < length xs
    pub item : A
    pub there : (d : A) → get_or xs k d ≡ item
    pub bad : step state item ≡ inl e
    pub here : (rest : List A) → fault s (take (suc k) xs ++ rest) ≡ Some e

  -- all items are passed, and their end is the fault
  pub record IsEnd (xs : List A) (e : E) (k : ℕ) (state : S) : Type 0 where
    pub all : k ≡ length xs
    pub missing : fault state [] ≡ Some e

  -- the fault is found after the first k items, in this state
  pub record Cut (s : S) (xs : List A) (e : E) : Type 0 where
    pub k : ℕ
    pub state : S
    pub place : at state ≡ at s + k
    pub before : (rest : List A) → fault state rest ≡ None → fault s (take k xs ++ rest) ≡ None
    pub kind : IsBad s xs e k state ⊎ IsEnd xs e k state

  module _ (walk : IsWalk) where
    -- one item more in front
    one_on : (s t : S) (x : A) (xs : List A) (e : E) → step s x ≡ inr t → Cut t xs e → Cut s (x ∷ xs) e
    one_on s t x xs e is c = record {
      k = suc c.k;
      state = c.state;
      place = omega (arith, c.place, walk.counts s t x is);
      before = λ rest none. front (take c.k xs ++ rest) None (c.before rest none);
      kind = kinds c.kind;
    }
      where
        front : (xs : List A) (r : Option E) → fault t xs ≡ r → fault s (x ∷ xs) ≡ r
        front xs r h = walk.steps s x xs ∙ ap (λ r. after r xs) is ∙ h

        kinds : IsBad t xs e c.k c.state ⊎ IsEnd xs e c.k c.state → IsBad s (x ∷ xs) e (suc c.k) c.state ⊎ IsEnd (x ∷ xs) e (suc c.k) c.state
        kinds (inl b) = inl (record {
          inside = omega (arith, b.inside);
          item = b.item;
          there = b.there;
          bad = b.bad;
          here = λ rest. front (take (suc c.k) xs ++ rest) (Some e) (b.here rest);
        })
        kinds (inr m) = inr (record { all = ap suc m.all; missing = m.missing })

    -- where a fault is found
    pub cut : (s : S) (xs : List A) (e : E) → fault s xs ≡ Some e → Cut s xs e
    cut s [] e h = record { k = 0; state = s; place = omega arith; before = λ rest none. none; kind = inr (record { all = refl; missing = h }) }
    cut s (x ∷ xs) e h = by_step (step s x) refl (λ t. cut t xs e)
      where
        by_step : (r : E ⊎ S) → step s x ≡ r → ((t : S) → fault t xs ≡ Some e → Cut t xs e) → Cut s (x ∷ xs) e
        by_step (inl f) is next =
            let same : Some f ≡ Some e = sym (walk.steps s x xs ∙ ap (λ r. after r xs) is) ∙ h in
            record {
              k = 0;
              state = s;
              place = omega arith;
              before = λ rest none. none;
              kind = inl (record {
                inside = omega arith;
                item = x;
                there = λ d. refl;
                bad = is ∙ ap inl (some_one f e same);
                here = λ rest. walk.steps s x rest ∙ ap (λ r. after r rest) is ∙ same;
              });
            }
        by_step (inr t) is next = one_on s t x xs e is (next t (sym (walk.steps s x xs ∙ ap (λ r. after r xs) is) ∙ h))

-- no list is both without a fault and with one
pub no_both : {E : Type 0} (r : Option E) (e : E) → r ≡ None → r ≡ Some e → ⊥
no_both r e p q = some_not_none (sym p ∙ q)
  where
    some_not_none : None ≡ Some e → ⊥
    some_not_none x = absurd cc

-- a place after so many items is that of the first bad one
pub first_bad : {A : Type 0} (IsLawful : List A → Type 0) (all : List A) (k place : ℕ) → place ≡ suc k → k < length all
    → IsFront IsLawful (take k all) → ¬ IsFront IsLawful (take (suc k) all) → IsFirstBad IsLawful all place
first_bad IsLawful all k place at inside before here = record {
  from = omega (arith, at);
  inside = omega (arith, at, inside);
  before = subst (λ (n : ℕ). IsFront IsLawful (take n all)) (let n : k ≡ place - 1 = omega (arith, at) in n) before;
  here = subst (λ (n : ℕ). ¬ IsFront IsLawful (take n all)) (sym at) here;
}

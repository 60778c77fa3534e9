-- Finite maps that are made of a list of keys and a function. Each is read by its lemma, `get-..`.
use Rattle.std.specs.Prelude.{◌≡◌, Bool, true, false, cond, ◌||◌, List, [], ◌∷◌, ◌++◌, Option, Some, None, is_some, refl}
use Rattle.std.proofs.Common.{sym, ◌∙◌, ap, arith}
use Rattle.std.specs.List.{list_any}
use Rattle.std.specs.Option.{option_and_then}
use Rattle.std.specs.declared.cmp.Ordering.{Ordering}
use Rattle.std.specs.Ordering.{eq_by_cmp}
use Rattle.std.specs.Cmp.{IsTotalOrder, Equal-is}
use Rattle.std.specs.FinMap.{FinMap, IsAntisymmetric, empty, insert, get, keys, get-empty, get-insert, contains_key-keys}

module _ {K X : Type 0} {R : K → K → Ordering} where
  -- one more key, if it has something
  put_some : FinMap R X → K → Option X → FinMap R X
  put_some m k None = m
  put_some m k (Some x) = insert m k x

  -- the map that has f k at each key k of the list
  pub of_keys : List K → (K → Option X) → FinMap R X
  of_keys [] f = empty
  of_keys (k ∷ ks) f = put_some (of_keys ks f) k (f k)

  -- the map that has f of what the two maps have at each key
  pub merge : (Option X → Option X → Option X) → FinMap R X → FinMap R X → FinMap R X
  merge f m n = of_keys (keys m ++ keys n) (λ k. f (get m k) (get n k))

-- the map with f of each value, without those of which f leaves nothing
pub map_some : {K X Y : Type 0} {R : K → K → Ordering} → (X → Option Y) → FinMap R X → FinMap R Y
map_some f m = of_keys (keys m) (λ k. option_and_then f (get m k))

-- a key that is not there has no value
pub no_value : {X : Type 0} (x : Option X) → is_some x ≡ false → x ≡ None
no_value None e = refl
no_value (Some x) e = cc

any_front : {K : Type 0} (t : K → Bool) (xs ys : List K) → list_any t (xs ++ ys) ≡ false → list_any t xs ≡ false
any_front t [] ys e = refl
any_front t (x ∷ xs) ys e = grind (arith, any_front t xs ys, e)

any_back : {K : Type 0} (t : K → Bool) (xs ys : List K) → list_any t (xs ++ ys) ≡ false → list_any t ys ≡ false
any_back t [] ys e = e
any_back t (x ∷ xs) ys e = grind (arith, any_back t xs ys, e)

-- keys that an exact order ties are one
pub ties_are_equal : {K : Type 0} {R : K → K → Ordering} → IsAntisymmetric R → (q k : K) → eq_by_cmp R q k ≡ true → q ≡ k
ties_are_equal {R = R} same q k e = same q k ((Equal-is (R q k)).0 e)

either : {X : Type 0} (b : Bool) (x : Option X) → x ≡ None → cond b x None ≡ x
either true x e = refl
either false x e = sym e

module _ {K X : Type 0} {R : K → K → Ordering} (o : IsTotalOrder R) (same : IsAntisymmetric R) where
  get-put_some : (m : FinMap R X) (k : K) (x : Option X) (q : K) (b : Bool) → eq_by_cmp R q k ≡ b → (b ≡ true → x ≡ None → get m q ≡ None)
      → get (put_some m k x) q ≡ cond b x (get m q)
  unfolding put_some
  get-put_some m k None q true e h = h refl refl
  get-put_some m k None q false e h = refl
  get-put_some m k (Some x) q b e h = get-insert o m k x q ∙ ap (λ b. cond b (Some x) (get m q)) e

  -- what the map of a list of keys has at one of them
  pub get-of_keys : (ks : List K) (f : K → Option X) (q : K) → get (of_keys {R = R} ks f) q ≡ cond (list_any (eq_by_cmp R q) ks) (f q) None
  unfolding of_keys
  get-of_keys [] f q = get-empty R q
  get-of_keys (k ∷ ks) f q =
      get-put_some (of_keys ks f) k (f k) q _ refl (λ e none. let gone : f q ≡ None = ap f
      (ties_are_equal same q k e) ∙ none in get-of_keys ks f q ∙ either _ (f q) gone ∙ gone)
      ∙ step (eq_by_cmp R q k) refl (get-of_keys ks f q)
    where
      step : (b : Bool) → eq_by_cmp R q k ≡ b → get (of_keys {R = R} ks f) q ≡ cond (list_any (eq_by_cmp R q) ks) (f q) None
          → cond b (f k) (get (of_keys {R = R} ks f) q) ≡ cond (b || list_any (eq_by_cmp R q) ks) (f q) None
      step true e ih = ap f (sym (ties_are_equal same q k e))
      step false e ih = ih

  -- where f has nothing beyond the keys
  pub get-of_all_keys : (ks : List K) (f : K → Option X) → ((q : K) → list_any (eq_by_cmp R q) ks ≡ false → f q ≡ None) → (q : K)
      → get (of_keys {R = R} ks f) q ≡ f q
  get-of_all_keys ks f beyond q = get-of_keys ks f q ∙ by_case (list_any (eq_by_cmp R q) ks) refl
    where
      by_case : (b : Bool) → list_any (eq_by_cmp R q) ks ≡ b → cond b (f q) None ≡ f q
      by_case true e = refl
      by_case false e = sym (beyond q e)

-- a key that is not among the keys has nothing
missing : {K X : Type 0} {R : K → K → Ordering} (m : FinMap R X) (q : K) → list_any (eq_by_cmp R q) (keys m) ≡ false → get m q ≡ None
missing m q e = no_value (get m q) (contains_key-keys m q ∙ e)

module _ {K X : Type 0} {R : K → K → Ordering} (o : IsTotalOrder R) (same : IsAntisymmetric R) where
  -- what two maps merged have at a key
  pub get-merge : (f : Option X → Option X → Option X) → f None None ≡ None → (m n : FinMap R X) (q : K) → get (merge f m n) q ≡ f (get m q) (get n q)
  unfolding merge
  get-merge f none m n = get-of_all_keys o same (keys m ++ keys n) (λ k. f (get m k) (get n k)) beyond
    where
      beyond : (q : K) → list_any (eq_by_cmp R q) (keys m ++ keys n) ≡ false → f (get m q) (get n q) ≡ None
      beyond q e = rw (missing m q (any_front (eq_by_cmp R q) (keys m) (keys n) e), missing n q (any_back (eq_by_cmp R q) (keys m) (keys n) e)) none

-- what such a map has at a key
pub get-map_some : {K X Y : Type 0} {R : K → K → Ordering} → IsTotalOrder R → IsAntisymmetric R → (f : X → Option Y) (m : FinMap R X) (q : K)
    → get (map_some f m) q ≡ option_and_then f (get m q)
unfolding map_some
get-map_some o same f m = get-of_all_keys o same (keys m) (λ k. option_and_then f (get m k)) (λ q e. ap (option_and_then f) (missing m q e))

-- Steps of loops over values.
use Rattle.std.proofs.Common.{◌≡◌, ℕ, zero, suc, ◌+◌, ◌<◌, Bool, true, false, cond, List, [], ◌∷◌, ◌++◌, map, length, get_or, take, Option, Some}
use Rattle.std.proofs.Common.{None, refl, sym, ap, ◌∙◌, append_assoc, arith}
use Rattle.std.specs.Prelude.{◌||◌, filter}
use Rattle.std.specs.List.{filter_map, cons_option, list_any}
use Rattle.std.specs.Option.{option_to_list}
use Rattle.std.proofs.lemmas.List.{map_more, map_push, append-nil}
use Rattle.std.proofs.lemmas.List.Elements.{filter_more, filter_map-append}

-- ---- what passes a test

module _ (p : List ℕ → Bool) (vs : List (List ℕ)) (i : ℕ) (v : List ℕ) (inside : i < length vs) (at : v ≡ get_or vs i v) where
  -- what passes is left
  pub passes_some : p v ≡ true → filter p vs ≡ [] → ⊥
  passes_some pass none = some_left vs i inside at none
    where
      cons_not_nil : (b : Bool) (x : List ℕ) (xs : List (List ℕ)) → b ≡ true → cond b (x ∷ xs) xs ≡ [] → ⊥
      cons_not_nil true x xs e f = absurd cc
      cons_not_nil false x xs e f = absurd cc

      rest_nil : (b : Bool) (x : List ℕ) (xs : List (List ℕ)) → cond b (x ∷ xs) xs ≡ [] → xs ≡ []
      rest_nil true x xs f = absurd cc
      rest_nil false x xs f = f

      some_left : (ws : List (List ℕ)) (k : ℕ) → k < length ws → v ≡ get_or ws k v → filter p ws ≡ [] → ⊥
      some_left [] k less e f = absurd (omega arith)
      some_left (w ∷ ws) zero less e f = cons_not_nil (p w) w (filter p ws) (ap p (sym e) ∙ pass) f
      some_left (w ∷ ws) (suc k) less e f = some_left ws k (omega (arith, less)) e (rest_nil (p w) w (filter p ws) f)

-- a test of what is seen through a function
pub list_any_seen : {X : Type 0} (p : List ℕ → Bool) (f : X → List ℕ) (xs : List X) → list_any p (map f xs) ≡ list_any (λ x. p (f x)) xs
list_any_seen p f [] = refl
list_any_seen p f (x ∷ xs) = ap (λ (b : Bool). p (f x) || b) (list_any_seen p f xs)

-- ---- what values give

-- the list of what there may be
pub as_list : {X : Type 0} (o : Option X) → option_to_list o ≡ cons_option o []
as_list None = refl
as_list (Some x) = refl

-- one more of the values that are seen through a function, as borrowed values are
pub gives_more : {X Y : Type 0} (f : X → List ℕ) (h : List ℕ → Option Y) (xs : List X) (i : ℕ) (x : X) → i < length xs → x ≡ get_or xs i x
    → filter_map h (map f (take (i + 1) xs)) ≡ filter_map h (map f (take i xs)) ++ cons_option (h (f x)) []
gives_more {X} {Y} f h xs i x inside at =
    ap (filter_map h) (map_more f xs i x inside ∙ ap (λ (y : X). map f (take i xs) ++ f y ∷ []) (sym at))
    ∙ filter_map-append h (map f (take i xs)) (f x ∷ [])

-- ---- what a loop pushes

-- one more item, which is seen as what the loop makes of one more element
pub pushed_more : {X Y Z : Type 0} (f : X → Z) (g : Y → Z) (start old new : List X) (x : X) (ys : List Y) (i : ℕ) (y : Y) → i < length ys
    → y ≡ get_or ys i y → new ≡ old ++ x ∷ []
    → map f old ≡ map f start ++ map g (take i ys) → f x ≡ g y → map f new ≡ map f start ++ map g (take (i + 1) ys)
pushed_more {X} {Y} {Z} f g start old new x ys i y inside at pushed before made =
    ap (map f) pushed ∙ map_push f old x ∙ ap (λ (zs : List Z). zs ++ f x ∷ []) before ∙ append_assoc (map f start) (map g (take i ys)) (f x ∷ [])
    ∙ ap (λ (zs : List Z). map f start ++ zs) (ap (λ (z : Z). map g (take i ys) ++ z ∷ []) (made ∙ ap g at) ∙ sym (map_more g ys i y inside))

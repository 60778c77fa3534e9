-- Batches that a look-up gives one after the other: those that came, and those of what is left.
use Rattle.std.proofs.Common.{◌≡◌, ◌≢◌, ◌∙◌, ℕ, ◌<◌, ◌≤◌, false, List, [], ◌∷◌, ◌++◌, length, map, take, drop}
use Rattle.std.proofs.Common.{refl, sym, ap, subst, arith, append_assoc, append-nil, length-drop}
use Rattle.std.proofs.lemmas.List.{map-append}
use Rattle.std.specs.Prelude.{Option, Some, None, is_none}
use Rattle.std.specs.Option.{option_map}
use Rattle.tower_codec.specs.declared.binding.StringBinding.{StringBinding}
use Rattle.ns_inquire.specs.Batches.{batches, first_batch}

abbrev pub Bindings : Type 0
Bindings = List StringBinding

-- how many bindings are left
abbrev pub left_over : Option Bindings → ℕ
left_over None = 0
left_over (Some left) = length left

-- the batches that came and those of what is left are all that there were at first
abbrev pub Given : (most : ℕ) → (first now : Option Bindings) → List Bindings → Type 0
Given most first now came =
    (all : Bindings) → first ≡ Some all → (left : Bindings) × (now ≡ Some left) × (came ++ batches most left ≡ batches most all)

-- a call gives this batch, if it gives one
abbrev pub Gives : (most : ℕ) → (old new : Option Bindings) → Option Bindings → Type 0
Gives most old new batch = (left : Bindings) → old ≡ Some left → (batch ≡ first_batch most left) × (new ≡ Some (drop most left))

-- a list is cut into a first batch and the others
abbrev pub Cuts : ℕ → Type 0
Cuts most = (left : Bindings) → left ≢ [] → batches most left ≡ take most left ∷ batches most (drop most left)

-- none came yet
pub none_came : {A B : Type 0} (f : A → B) (items : List A) (rest : List B) → items ≡ [] → map f items ++ rest ≡ rest
none_came {A} f items rest none = ap (λ (l : List A). map f l ++ rest) none

-- what a call gives, seen by f, where the batches have the same size
pub gives_some : {V : Type 0} (f : V → Bindings) (o : Option V) (v : V) (m most : ℕ) (left : Bindings) (new : Option Bindings) → o ≡ Some v → m ≡ most
    → (option_map f o ≡ first_batch m left) × (new ≡ Some (drop m left)) → (Some (f v) ≡ first_batch most left) × (new ≡ Some (drop most left))
gives_some f o v m most left new is same given = (
  sym (ap (option_map f) is) ∙ given.0 ∙ ap (λ (k : ℕ). first_batch k left) same,
  given.1 ∙ ap (λ (k : ℕ). Some (drop k left)) same,
)

pub gives_none : {V : Type 0} (f : V → Bindings) (o : Option V) (m most : ℕ) (left : Bindings) (new : Option Bindings) → o ≡ None → m ≡ most
    → (option_map f o ≡ first_batch m left) × (new ≡ Some (drop m left)) → (None ≡ first_batch most left) × (new ≡ Some (drop most left))
gives_none f o m most left new is same given = (
  sym (ap (option_map f) is) ∙ given.0 ∙ ap (λ (k : ℕ). first_batch k left) same,
  given.1 ∙ ap (λ (k : ℕ). Some (drop k left)) same,
)

-- one more item, seen by f
pub map_more : {A B : Type 0} (f : A → B) (old new : List A) (x : A) → new ≡ old ++ x ∷ [] → map f new ≡ map f old ++ f x ∷ []
map_more f old new x put = ap (map f) put ∙ map-append f old (x ∷ [])

module _ (most : ℕ) (some : 1 ≤ most) where
  -- after a batch less is left
  pub less_left : (old new : Option Bindings) (batch : Bindings) → is_none old ≡ false → Gives most old new (Some batch) → left_over new < left_over old
  less_left None new batch usable gives = absurd cc
  less_left (Some []) new batch usable gives = let given = (gives [] refl).0 in absurd cc
  less_left (Some (x ∷ xs)) new batch usable gives =
      let is : new ≡ Some (drop most (x ∷ xs)) = (gives (x ∷ xs) refl).1 in
      subst (λ (o : Option Bindings). left_over o < length (x ∷ xs)) (sym is) (omega (arith, some, length-drop most (x ∷ xs)))

  -- and the batch is after those that came
  pub one_more : Cuts most → (first old new : Option Bindings) (came now : List Bindings) (batch : Bindings) → Given most first old came
      → Gives most old new (Some batch) → now ≡ came ++ batch ∷ [] → Given most first new now
  one_more cuts first old new came now batch so_far gives put all is = by_left (so_far all is).0 (so_far all is).1 (so_far all is).2
    where
      by_left : (left : Bindings) → old ≡ Some left → came ++ batches most left ≡ batches most all
          → (rest : Bindings) × (new ≡ Some rest) × (now ++ batches most rest ≡ batches most all)
      by_left [] at whole = let next = (gives [] at).0 in absurd cc
      by_left (x ∷ xs) at whole =
          let same : batch ≡ take most (x ∷ xs) = let next = (gives (x ∷ xs) at).0 in cc in
          let rest = drop most (x ∷ xs) in (
            rest,
            (gives (x ∷ xs) at).1,
            ap (λ (bs : List Bindings). bs ++ batches most rest) put ∙ append_assoc came (batch ∷ []) (batches most rest) ∙ ap (λ (b : Bindings). came ++ b ∷ batches most rest) same
                ∙ ap (λ (bs : List Bindings). came ++ bs) (sym (cuts (x ∷ xs) (λ e. cc))) ∙ whole,
          )

  -- where none comes all came
  pub all_came : (first old new : Option Bindings) (came : List Bindings) (all : Bindings) → Given most first old came → Gives most old new None
      → first ≡ Some all → came ≡ batches most all
  all_came first old new came all so_far gives is = by_left (so_far all is).0 (so_far all is).1 (so_far all is).2
    where
      by_left : (left : Bindings) → old ≡ Some left → came ++ batches most left ≡ batches most all → came ≡ batches most all
      by_left [] at whole = sym (append-nil came) ∙ whole
      by_left (x ∷ xs) at whole = let next = (gives (x ∷ xs) at).0 in absurd cc

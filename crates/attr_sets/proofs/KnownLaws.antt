-- What the items of a list have, joined to what those of another have that has each early item of
-- it: only what is late is taken in. Of any items, and of any joins that know early values.
use Rattle.std.proofs.Common.{◌≡◌, Bool, true, false, List, [], ◌∷◌, Option, Some, None, refl, sym, ap, ◌∙◌}
use Rattle.std.specs.Prelude.{if◌then◌else◌}
use Rattle.std.specs.Option.{option_and_then}
use Rattle.std.specs.List.{Contains}
use Rattle.cds_stamps.specs.Semilattice.{IsSemilattice, maybe, maybe_semilattice, join_of}
use Rattle.attr_sets.proofs.Greatest.{Contains-head, Contains-tail, join_of-member}

none_right : {X : Type 0} (f : X → X → X) (y : Option X) → maybe f y None ≡ y
none_right f None = refl
none_right f (Some y) = refl

module _ {A X : Type 0} {f : X → X → X} (s : IsSemilattice f) (g : A → Option X) (early : X → Bool)
    (parts : (x y : X) → early (f x y) ≡ true → (early x ≡ true) × (early y ≡ true)) where
  -- nothing is late
  abbrev pub is_early : Option X → Bool
  is_early None = true
  is_early (Some x) = early x

  -- a value, if it is late
  abbrev pub late : Option X → Option X
  late = option_and_then (λ x. if early x then None else Some x)

  -- each early item of xs is in ys
  abbrev pub Knows : List A → List A → Type 0
  Knows ys xs = (a : A) → Contains xs a → (x : X) → g a ≡ Some x → early x ≡ true → Contains ys a

  both_early : (u v : Option X) → is_early (maybe f u v) ≡ true → (is_early u ≡ true) × (is_early v ≡ true)
  both_early None v e = (refl, e)
  both_early (Some u) None e = (e, refl)
  both_early (Some u) (Some v) e = parts u v e

  absorbed : (a : A) (ys : List A) (u : Option X) → g a ≡ u → is_early u ≡ true → ((x : X) → g a ≡ Some x → early x ≡ true → Contains ys a)
      → maybe f (g a) (join_of f g ys) ≡ join_of f g ys
  absorbed a ys None p e known = ap (λ u. maybe f u (join_of f g ys)) p
  absorbed a ys (Some x) p e known = join_of-member s g ys a (known x p e)

  -- if what xs has is early, ys has all of it
  pub all_early : (xs ys : List A) → Knows ys xs → is_early (join_of f g xs) ≡ true → maybe f (join_of f g ys) (join_of f g xs) ≡ join_of f g ys
  all_early [] ys known e = none_right f (join_of f g ys)
  all_early (a ∷ xs) ys known e =
      let m : IsSemilattice (maybe f) = maybe_semilattice s in
      let both = both_early (g a) (join_of f g xs) e in
      let here = absorbed a ys (g a) refl both.0 (known a (Contains-head a xs)) in
      let others = all_early xs ys (λ b c. known b (Contains-tail a xs b c)) both.1 in
      sym (m.assoc (join_of f g ys) (g a) (join_of f g xs))
      ∙ ap (λ u. maybe f u (join_of f g xs)) (m.comm (join_of f g ys) (g a) ∙ here) ∙ others

  -- ys has what is early in xs, so that only what is late is taken in
  pub known_early : (xs ys : List A) → Knows ys xs → maybe f (join_of f g ys) (join_of f g xs) ≡ maybe f (join_of f g ys) (late (join_of f g xs))
  known_early xs ys known = by_case (join_of f g xs) refl (all_early xs ys known)
    where
      by_early : (x : X) (b : Bool) → join_of f g xs ≡ Some x → early x ≡ b
          → (is_early (join_of f g xs) ≡ true → maybe f (join_of f g ys) (join_of f g xs) ≡ join_of f g ys)
          → maybe f (join_of f g ys) (Some x) ≡ maybe f (join_of f g ys) (if b then None else Some x)
      by_early x true is e all = ap (maybe f (join_of f g ys)) (sym is) ∙ all (ap is_early is ∙ e) ∙ sym (none_right f (join_of f g ys))
      by_early x false is e all = refl

      by_case : (v : Option X) → join_of f g xs ≡ v
          → (is_early (join_of f g xs) ≡ true → maybe f (join_of f g ys) (join_of f g xs) ≡ join_of f g ys)
          → maybe f (join_of f g ys) v ≡ maybe f (join_of f g ys) (late v)
      by_case None is all = refl
      by_case (Some x) is all = by_early x (early x) is refl all

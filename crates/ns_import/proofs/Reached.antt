-- The order has exactly the items that are reached, each once.
use Rattle.std.proofs.Common.{◌≡◌, ◌↔◌, ℕ, zero, suc, Bool, true, not, List, [], ◌∷◌, ◌++◌, length, filter, Contains, refl, sym, subst, ⊎_elim}
use Rattle.std.specs.List.{IsDistinct}
use Rattle.cds_stamps.specs.Firsts.{has}
use Rattle.cds_stamps.proofs.FirstLaws.{firsts-once}
use Rattle.ns_import.specs.Orders.{unfold_paths, order, Reaches, here, there}
use Rattle.ns_import.proofs.Firsts.{or_cases, Within, flat_map_has, left_out, has_from, has_stands, firsts_within}
use Rattle.ns_import.proofs.Unfolding.{branches, Closed, order_closed, order_has_start}

module _ {A : Type 0} (same : A → A → Bool) (exact : (x y : A) → same x y ≡ true → x ≡ y) (itself : (x : A) → same x x ≡ true) (edges : A → List A) where
  -- what the paths come to is reached
  unfolded_reached : (k : ℕ) (path : List A) (e f : A) → has same f (unfold_paths same edges k path e) ≡ true → Reaches edges e f
  unfolded_reached zero path e f h = absurd cc
  unfolded_reached (suc k) path e f h =
      ⊎_elim (λ is. subst (Reaches edges e) (sym (exact f e is)) (here e))
      (λ below. let from = flat_map_has same itself (λ g. unfold_paths same edges k (path ++ e ∷ []) g)
      (filter (λ g. not (has same g (path ++ e ∷ []))) (edges e)) f below in
      let out = left_out same exact (path ++ e ∷ []) (edges e) from.0 from.1 in
      there e from.0 f (has_stands same exact from.0 (edges e) out.0) (unfolded_reached k (path ++ e ∷ []) from.0 f from.2))
      (or_cases (same f e) (has same f (branches same edges k (path ++ e ∷ []) (edges e))) h)

  -- what is reached from an item of a list is in the list, where the edges of its items lead to its
  -- items
  closed_reached : (seen : List A) → Closed same edges seen [] → (e f : A) → Reaches edges e f → has same e seen ≡ true → has same f seen ≡ true
  closed_reached seen closed e f (here x) h = h
  closed_reached seen closed e f (there a x b edge on) h =
      closed_reached seen closed x b on (closed.finished a h refl x (has_from same itself x (edges a) edge))

  -- each item of the order is there once
  pub order_once : (steps : ℕ) (e : A) → IsDistinct same (order same edges steps e)
  order_once steps e = firsts-once same exact itself [] (unfold_paths same edges steps [] e)

  module _ (objects : List A) (lands : (e : A) → Within same objects (edges e)) where
    -- the order has exactly what is reached
    pub order_reaches : (e : A) → has same e objects ≡ true → (f : A) → Contains (order same edges (length objects) e) f ↔ Reaches edges e f
    order_reaches e listed f = (
      λ c. unfolded_reached (length objects) [] e f
          (firsts_within same [] (unfold_paths same edges (length objects) [] e) f (has_from same itself f (order same edges (length objects) e) c)),
      λ reached. has_stands same exact f (order same edges (length objects) e)
          (closed_reached (order same edges (length objects) e) (order_closed same exact itself edges objects lands e listed) e f reached
          (order_has_start same exact itself edges objects lands e listed)),
    )

-- What holds of each value of a map holds of its entries, and the greatest of what they have.
use Rattle.std.proofs.Common.{◌≡◌, ℕ, ◌≤◌, Bool, true, false, cond, List, [], ◌∷◌, Some, refl, sym, subst, ◌↔◌, arith, is_eq}
use Rattle.std.specs.Prelude.{◌&&◌, T, IfSome}
use Rattle.std.specs.declared.cmp.Ordering.{Ordering}
use Rattle.std.specs.Ordering.{is_lt, eq_by_cmp}
use Rattle.std.specs.Cmp.{IsTotalOrder, tied_itself}
use Rattle.std.specs.List.{AllByRecursion}
use Rattle.std.specs.FinMap.{FinMap, IsAntisymmetric, get, find, entries, entries_sorted, get-entries}
use Rattle.std.specs.FinMap.Entries.{is_sorted, below_all}
use Rattle.std.proofs.lemmas.Option.{IfSome_then}
use Rattle.cds_stamps.specs.Joins.{EachValue}
use Rattle.cds_stamps.specs.Keyed.{ties_are_equal}
use Rattle.purge_rule.specs.Latest.{greatest_of}

both_of : (a b : Bool) → T (a && b) → T a × T b
both_of true b h = (tt, h)
both_of false b h = absurd h

apart : (r : Ordering) → T (is_lt r) → is_eq r ≡ true → ⊥
apart r less same = grind (arith, less, same)

module _ {K X : Type 0} {R : K → K → Ordering} (o : IsTotalOrder R) (same : IsAntisymmetric R) (V : X → Type 0) where
  -- a key below each key of the entries finds none of them
  none_below : (q k : K) (es : List (K × X)) → q ≡ k → T (below_all R k es) → IfSome (find R q es) V
  none_below q k [] is below = tt
  none_below q k (e ∷ es) is below =
      let parts : T (is_lt (R k e.0)) × T (below_all R k es) = both_of (is_lt (R k e.0)) (below_all R k es) below in
      by_case (eq_by_cmp R q e.0) refl parts.0 (none_below q k es is parts.1)
    where
      by_case : (b : Bool) → eq_by_cmp R q e.0 ≡ b → T (is_lt (R k e.0)) → IfSome (find R q es) V → IfSome (cond b (Some e.1) (find R q es)) V
      by_case true at less rest = absurd (apart (R k e.0) less (subst (λ q. eq_by_cmp R q e.0 ≡ true) is at))
      by_case false at less rest = rest

  all_found : (es : List (K × X)) → T (is_sorted R es) → ((q : K) → IfSome (find R q es) V) → AllByRecursion (λ e. V e.1) es
  all_found [] sorted h = tt
  all_found (e ∷ es) sorted h = (
    subst (λ r. IfSome (cond (is_eq r) (Some e.1) (find R e.0 es)) V) (tied_itself o e.0) (h e.0),
    all_found es parts.1 (λ q. by_case q (eq_by_cmp R q e.0) refl),
  )
    where
      parts : T (below_all R e.0 es) × T (is_sorted R es)
      parts = both_of (below_all R e.0 es) (is_sorted R es) sorted

      by_case : (q : K) (b : Bool) → eq_by_cmp R q e.0 ≡ b → IfSome (find R q es) V
      by_case q true at = none_below q e.0 es (ties_are_equal same q e.0 at) parts.0
      by_case q false at = subst (λ b. IfSome (cond b (Some e.1) (find R q es)) V) at (h q)

  found_in_all : (es : List (K × X)) → AllByRecursion (λ e. V e.1) es → (q : K) → IfSome (find R q es) V
  found_in_all [] h q = tt
  found_in_all (e ∷ es) h q = by_case (eq_by_cmp R q e.0) (found_in_all es h.1 q)
    where
      by_case : (b : Bool) → IfSome (find R q es) V → IfSome (cond b (Some e.1) (find R q es)) V
      by_case true rest = h.0
      by_case false rest = rest

  -- what holds of each value of a map holds of its entries, and the other way round
  pub each_entry : (m : FinMap R X) → EachValue V m ↔ AllByRecursion (λ e. V e.1) (entries m)
  each_entry m = (
    λ h. all_found (entries m) (entries_sorted m) (λ q. subst (λ x. IfSome x V) (get-entries m q) (h q)),
    λ h q. subst (λ x. IfSome x V) (sym (get-entries m q)) (found_in_all (entries m) h q),
  )

-- the greatest of a list is at most n exactly where each is
pub greatest_of-≤ : {A : Type 0} (f : A → ℕ) (n : ℕ) (xs : List A) → (greatest_of f xs ≤ n) ↔ AllByRecursion (λ x. f x ≤ n) xs
greatest_of-≤ f n [] = (λ h. tt, λ h. omega arith)
greatest_of-≤ f n (x ∷ xs) = let rest = greatest_of-≤ f n xs in (
  λ h. (omega (arith, h), rest.0 (omega (arith, h))),
  λ h. let here = h.0 in let there = rest.1 h.1 in omega (arith, here, there),
)

-- so it is for the values of a map
pub greatest_value-≤ : {K X : Type 0} {R : K → K → Ordering} → IsTotalOrder R → IsAntisymmetric R → (f : X → ℕ) (n : ℕ) (U : X → Type 0)
    → ((x : X) → (f x ≤ n) ↔ U x) → (m : FinMap R X) → (greatest_of (λ e. f e.1) (entries m) ≤ n) ↔ EachValue U m
greatest_value-≤ {X = X} o same f n U at m =
    let listed = greatest_of-≤ (λ e. f e.1) n (entries m) in
    let each = each_entry o same (λ (x : X). f x ≤ n) m in (
      λ h k. IfSome_then (get m k) (each.1 (listed.0 h) k) (λ x. (at x).0),
      λ h. listed.1 (each.0 (λ k. IfSome_then (get m k) (h k) (λ x. (at x).1))),
    )

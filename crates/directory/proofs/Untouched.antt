-- What a change at one key leaves at the others.
use Rattle.std.proofs.Common.{◌≡◌, Bool, true, false, cond, List, Some, refl, ap, ◌∙◌}
use Rattle.std.specs.Prelude.{◌≢◌}
use Rattle.std.specs.declared.cmp.Ordering.{Ordering}
use Rattle.std.specs.Ordering.{eq_by_cmp}
use Rattle.std.specs.Map.{lookup}
use Rattle.std.specs.BTreeMap.{is_at}
use Rattle.std.specs.Cmp.{IsTotalOrder}
use Rattle.std.specs.FinMap.{FinMap, IsAntisymmetric, get, insert, from_entries, get-insert}
use Rattle.cds_stamps.specs.Keyed.{ties_are_equal}
use Rattle.cds_stamps.proofs.TreeViews.{view-insert}

module _ {K X : Type 0} {R : K → K → Ordering} (o : IsTotalOrder R) (same : IsAntisymmetric R) where
  -- an insertion leaves the other keys
  pub inserted_apart : (m n : FinMap R X) (k : K) (x : X) → n ≡ insert m k x → (q : K) → q ≢ k → get n q ≡ get m q
  inserted_apart m n k x inserted q apart = ap (λ n. get n q) inserted ∙ get-insert o m k x q ∙ by_case (eq_by_cmp R q k) refl
    where
      by_case : (b : Bool) → eq_by_cmp R q k ≡ b → cond b (Some x) (get m q) ≡ get m q
      by_case true e = absurd (apart (ties_are_equal same q k e))
      by_case false e = refl

  -- a value set in place leaves the other keys
  pub untouched : (m : FinMap R X) (es fs : List (K × X)) (k : K) (next : X) → from_entries es ≡ m
      → ((q : K) → lookup (is_at (R q)) fs ≡ cond (is_at (R k) q) (Some next) (lookup (is_at (R q)) es)) → (q : K) → q ≢ k
      → get (from_entries {R = R} fs) q ≡ get m q
  untouched m es fs k next view puts = inserted_apart m (from_entries fs) k next (view-insert o same es fs k next puts ∙ ap (λ m. insert m k next) view)

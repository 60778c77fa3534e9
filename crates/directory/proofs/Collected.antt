-- The map that `collect` makes of pairs, as one into which they were inserted in turn.
use Rattle.std.proofs.Common.{◌≡◌, cond, List, [], ◌∷◌, Option, Some, refl, sym, ap, ◌∙◌}
use Rattle.std.specs.List.{fold}
use Rattle.std.specs.Map.{update, update_all}
use Rattle.std.specs.BTreeMap.{BTreeMap, IsFromIterResult}
use Rattle.std.specs.Ordering.{eq_by_cmp}
use Rattle.std.specs.declared.cmp.Ordering.{Ordering}
use Rattle.std.specs.Cmp.{IsTotalOrder, eq_by_cmp_equiv}
use Rattle.std.specs.FinMap.{FinMap, IsAntisymmetric, empty, get, insert, from_entries, get-empty, get-insert, same_map}
use Rattle.cds_stamps.proofs.TreeViews.{get-view}

module _ {K X : Type 0} {R : K → K → Ordering} (o : IsTotalOrder R) where
  get-inserted : (m : FinMap R X) (k : K) (x : X) (q : K) → get (insert m k x) q ≡ update (eq_by_cmp R) (get m) k (Some x) q
  get-inserted m k x q = get-insert o m k x q ∙ ap (λ b. cond b (Some x) (get m q)) ((eq_by_cmp_equiv o).symm q k)

  get-all_inserted : (m : FinMap R X) (es : List (K × X)) (q : K) → get (fold (λ m e. insert m e.0 e.1) m es) q ≡ update_all (eq_by_cmp R) (get m) es q
  get-all_inserted m [] q = refl
  get-all_inserted m (e ∷ es) q =
      get-all_inserted (insert m e.0 e.1) es q
      ∙ ap (λ (f : K → Option X). update_all (eq_by_cmp R) f es q) (λ i p. get-inserted m e.0 e.1 p i)

  -- the map of the entries that `collect` made of pairs
  pub collected : IsAntisymmetric R → (pairs : List (K × X)) (n : BTreeMap K X) → IsFromIterResult R pairs n
      → from_entries {R = R} n.entries ≡ fold (λ m e. insert m e.0 e.1) empty pairs
  collected same pairs n h = same_map o same _ _ (λ q.
      get-view o n.entries q ∙ h.0 q
      ∙ ap (λ (f : K → Option X). update_all (eq_by_cmp R) f pairs q) (λ i p. sym (get-empty {X = X} R p) i)
      ∙ sym (get-all_inserted empty pairs q))

-- Joins of maps whose values are valid, where a value's join is known on valid values alone.
use Rattle.std.proofs.Common.{◌≡◌, Bool, true, false, cond, List, [], ◌∷◌, Option, Some, None, refl, sym, ap, subst, ◌∙◌, is_eq}
use Rattle.std.specs.Prelude.{if◌then◌else◌, IfSome}
use Rattle.std.specs.declared.cmp.Ordering.{Ordering}
use Rattle.std.specs.Ordering.{eq_by_cmp}
use Rattle.std.specs.BTreeMap.{is_at}
use Rattle.std.specs.Map.{lookup, keys_of}
use Rattle.std.specs.List.{AllByRecursion}
use Rattle.std.specs.List.Sorted.{IsStrictlySortedBy}
use Rattle.std.specs.Cmp.{IsTotalOrder, eq_by_cmp_equiv, tied_itself}
use Rattle.std.specs.FinMap.{FinMap, IsAntisymmetric, get, insert, from_entries}
use Rattle.std.proofs.lemmas.Map.{lookup-none}
use Rattle.std.proofs.lemmas.Map.Keys.{sorted_tail, IsDistinct-from_sorted}
use Rattle.std.proofs.lemmas.Map.Entries.{none_past_head}
use Rattle.cds_stamps.specs.Semilattice.{IsJoin, maybe, maybe_join, join_of}
use Rattle.cds_stamps.specs.Joins.{EachValue}
use Rattle.cds_stamps.specs.Undos.{RaisesAt, TakesBack}
use Rattle.cds_stamps.proofs.TreeViews.{entry_at, get-view, view-insert, raised, entry_joined}
use Rattle.cds_stamps.proofs.Undoing.{back_here}

-- an entry's value at a key, if it is there
if_valid : {X : Type 0} (V : X → Type 0) (x : X) (b : Bool) → V x → IfSome (if b then Some x else None) V
if_valid V x true v = v
if_valid V x false v = tt

module _ {K X : Type 0} {R : K → K → Ordering} (o : IsTotalOrder R) (V : X → Type 0) where
  -- the values that keys find are all of them
  each_entry : (es : List (K × X)) → IsStrictlySortedBy R (keys_of es) → ((q : K) → IfSome (lookup (is_at (R q)) es) V) → AllByRecursion (λ e. V e.1) es
  each_entry [] sorted h = tt
  each_entry (e ∷ es) sorted h = (
    subst (λ r. IfSome (cond (is_eq r) (Some e.1) (lookup (is_at (R e.0)) es)) V) (tied_itself o e.0) (h e.0),
    each_entry es (sorted_tail R e.0 (keys_of es) sorted) (λ q. by_case q (is_at (R q) e.0) refl),
  )
    where
      by_case : (q : K) (b : Bool) → is_at (R q) e.0 ≡ b → IfSome (lookup (is_at (R q)) es) V
      by_case q true at =
          let distinct = IsDistinct-from_sorted R (keys_of (e ∷ es)) sorted in
          subst (λ x. IfSome x V) (sym (lookup-none (is_at (R q)) es (none_past_head (eq_by_cmp_equiv o) q e es distinct at))) tt
      by_case q false at = subst (λ b. IfSome (cond b (Some e.1) (lookup (is_at (R q)) es)) V) at (h q)

  -- the same, of a map and the tree that has its entries
  pub each_of_map : (m : FinMap R X) (es : List (K × X)) → from_entries es ≡ m → IsStrictlySortedBy R (keys_of es) → EachValue V m
      → AllByRecursion (λ e. V e.1) es
  each_of_map m es view sorted h = each_entry es sorted (λ q. subst (λ x. IfSome x V) (ap (λ m. get m q) (sym view) ∙ get-view o es q) (h q))

  -- one entry joined in, where what was there is valid
  pub valid_step : {f : X → X → X} → IsJoin V f → (m n : FinMap R X) (k : K) (x : X) (es rest : List (K × X)) (goal : K → Option X)
      → es ≡ (k, x) ∷ rest → (IfSome (get m k) V → V x → RaisesAt f m n k x)
      → EachValue V m × AllByRecursion (λ e. V e.1) es × ((q : K) → maybe f (get m q) (join_of f (entry_at R q) es) ≡ goal q)
      → EachValue V n × AllByRecursion (λ e. V e.1) rest × ((q : K) → maybe f (get n q) (join_of f (entry_at R q) rest) ≡ goal q)
  valid_step {f} s m n k x es rest goal first raises h =
      let all : V x × AllByRecursion (λ e. V e.1) rest = subst (AllByRecursion (λ e. V e.1)) first h.1 in
      let raised_at : RaisesAt f m n k x = raises (h.0 k) all.0 in
      let p : IsJoin (λ y. IfSome y V) (maybe f) = maybe_join s in (
        λ q. subst (λ y. IfSome y V) (sym (raised_at q)) (p.keeps (get m q) (if eq_by_cmp R q k then Some x else None) (h.0 q) (if_valid V x
            (eq_by_cmp R q k) all.0)),
        all.1,
        λ q. entry_joined R f p.assoc q (get m q) (get n q) (goal q) k x es rest first (raised_at q) (h.2 q),
      )

  -- a value that was there, joined in place if it is valid
  pub raised_valid : IsAntisymmetric R → (f : X → X → X)
      → {U : Type 0} (undo : U → X → X) (m : FinMap R X) (es fs : List (K × X)) (k : K) (own x next : X) (u : U) → from_entries es ≡ m
      → Some own ≡ lookup (is_at (R k)) es → (V own → V x → f own x ≡ next) → undo u next ≡ own
      → ((q : K) → lookup (is_at (R q)) fs ≡ cond (is_at (R k) q) (Some next) (lookup (is_at (R q)) es))
      → (IfSome (get m k) V → V x → RaisesAt f m (from_entries fs) k x) × TakesBack undo m (from_entries fs) ((k, Some u) ∷ [])
  raised_valid same f undo m es fs k own x next u view had joins mends puts =
      let inserted : from_entries fs ≡ insert m k next = view-insert o same es fs k next puts ∙ ap (λ m. insert m k next) view in
      let at : get m k ≡ Some own = ap (λ m. get m k) (sym view) ∙ get-view o es k ∙ sym had in (
        λ v w. raised o same f m (from_entries fs) k x next inserted (ap (λ own. maybe f own (Some x)) at ∙ ap Some (joins (subst
            (λ y. IfSome y V) at v) w)),
        back_here o same f undo m (from_entries fs) k own next u inserted at mends,
      )

  -- the same, without a log
  pub joined_valid : IsAntisymmetric R → (f : X → X → X) (m : FinMap R X) (es fs : List (K × X)) (k : K) (own x next : X) → from_entries es ≡ m
      → Some own ≡ lookup (is_at (R k)) es → (V own → V x → f own x ≡ next)
      → ((q : K) → lookup (is_at (R q)) fs ≡ cond (is_at (R k) q) (Some next) (lookup (is_at (R q)) es)) → IfSome (get m k) V → V x
      → RaisesAt f m (from_entries fs) k x
  joined_valid same f m es fs k own x next view had joins puts = (raised_valid same f (λ u x. u) m es fs k own x next own view had joins refl puts).0

  -- a map of one entry that has only valid values
  pub one_valid : (other : FinMap R X) (k : K) (x : X) → ((q : K) → get other q ≡ (if eq_by_cmp R q k then Some x else None)) → EachValue V other → V x
  one_valid other k x one h = subst (λ y. IfSome y V) (one k ∙ ap (λ r. if is_eq r then Some x else None) (tied_itself o k)) (h k)

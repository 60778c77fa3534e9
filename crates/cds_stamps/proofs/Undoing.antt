-- Changes of a map, and the logs that take them back. A map is beside the tree whose entries it
-- has; `es` are the tree's entries before a change, and `fs` those after it. Of any keys in an
-- exact total order, values and changes.
use Rattle.std.proofs.Common.{◌≡◌, Bool, true, false, cond, List, [], ◌∷◌, ◌++◌, Option, Some, None, refl, sym, ap, ◌∙◌, arith, Result, Ok, Err, OnErr}
use Rattle.std.specs.Prelude.{if◌then◌else◌, slice_get, length}
use Rattle.std.specs.declared.cmp.Ordering.{Ordering}
use Rattle.std.specs.Ordering.{eq_by_cmp}
use Rattle.std.specs.Option.{option_map}
use Rattle.std.specs.Map.{lookup}
use Rattle.std.specs.BTreeMap.{is_at}
use Rattle.std.specs.Cmp.{IsTotalOrder, eq_by_cmp_equiv}
use Rattle.std.specs.FinMap.{FinMap, IsAntisymmetric, get, insert, from_entries, get-insert, same_map}
use Rattle.cds_stamps.specs.Semilattice.{maybe}
use Rattle.cds_stamps.specs.Keyed.{ties_are_equal}
use Rattle.cds_stamps.specs.Undos.{value_taken_back, back_at, RaisesAt, TakesBack, LogsChange, MendsAt, taken_back, get-taken_back}
use Rattle.cds_stamps.proofs.TreeViews.{get-view, view-insert, raised}

-- the last change of a log is taken back first
pub back_at-push : {K X U : Type 0} (R : K → K → Ordering) (undo : U → X → X) (log : List (K × Option U)) (e : K × Option U) (q : K) (x : Option X)
    → back_at R undo (log ++ e ∷ []) q x ≡ back_at R undo log q (back_at R undo (e ∷ []) q x)
back_at-push R undo [] e q x = refl
back_at-push R undo (d ∷ log) e q x = ap (λ y. if eq_by_cmp R q d.0 then value_taken_back undo d.1 y else y) (back_at-push R undo log e q x)

-- a change with its entry at the end of the log
pub logged : {K X U : Type 0} {R : K → K → Ordering} (undo : U → X → X) (m n : FinMap R X) (log longer : List (K × Option U)) (e : K × Option U)
    → longer ≡ log ++ e ∷ [] → TakesBack undo m n (e ∷ []) → LogsChange undo m n log longer
logged {R = R} undo m n log longer e is back q =
    ap (λ l. back_at R undo l q (get n q)) is ∙ back_at-push R undo log e q (get n q) ∙ ap (back_at R undo log q) (back q)

module _ {K X : Type 0} {R : K → K → Ordering} (o : IsTotalOrder R) (same : IsAntisymmetric R) (f : X → X → X) where
  -- what takes back a value that was replaced, and one at a new key
  module _ {U : Type 0} (undo : U → X → X) where
    -- a value that was replaced, taken back
    pub back_here : (m n : FinMap R X) (k : K) (own next : X) (u : U) → n ≡ insert m k next → get m k ≡ Some own → undo u next ≡ own
        → TakesBack undo m n ((k, Some u) ∷ [])
    back_here m n k own next u inserted had mends q =
        ap (λ n. back_at R undo ((k, Some u) ∷ []) q (get n q)) inserted
        ∙ ap (back_at R undo ((k, Some u) ∷ []) q) (get-insert o m k next q) ∙ by_case (eq_by_cmp R q k) refl
      where
        by_case : (b : Bool) → eq_by_cmp R q k ≡ b → (if b then option_map (undo u) (cond b (Some next) (get m q)) else cond b (Some next) (get m q)) ≡ get m q
        by_case true e = ap Some mends ∙ sym had ∙ ap (get m) (sym (ties_are_equal same q k e))
        by_case false e = refl

    pub back_new : (m n : FinMap R X) (k : K) (x : X) → n ≡ insert m k x → get m k ≡ None → TakesBack undo m n ((k, None) ∷ [])
    back_new m n k x inserted had q =
        ap (λ n. back_at R undo ((k, None) ∷ []) q (get n q)) inserted
        ∙ ap (back_at R undo ((k, None) ∷ []) q) (get-insert o m k x q) ∙ by_case (eq_by_cmp R q k) refl
      where
        by_case : (b : Bool) → eq_by_cmp R q k ≡ b → (if b then None else cond b (Some x) (get m q)) ≡ get m q
        by_case true e = sym had ∙ ap (get m) (sym (ties_are_equal same q k e))
        by_case false e = refl

    -- a value that the tree had, joined in place
    pub raised_here : (m : FinMap R X) (es fs : List (K × X)) (k : K) (own x next : X) (u : U) → from_entries es ≡ m
        → Some own ≡ lookup (is_at (R k)) es → f own x ≡ next → undo u next ≡ own
        → ((q : K) → lookup (is_at (R q)) fs ≡ cond (is_at (R k) q) (Some next) (lookup (is_at (R q)) es))
        → RaisesAt f m (from_entries fs) k x × TakesBack undo m (from_entries fs) ((k, Some u) ∷ [])
    raised_here m es fs k own x next u view had joins mends puts =
        let inserted : from_entries fs ≡ insert m k next = view-insert o same es fs k next puts ∙ ap (λ m. insert m k next) view in
        let at : get m k ≡ Some own = ap (λ m. get m k) (sym view) ∙ get-view o es k ∙ sym had in
        let joined = ap (λ own. maybe f own (Some x)) at ∙ ap Some joins in
        (raised o same f m (from_entries fs) k x next inserted joined, back_here m (from_entries fs) k own next u inserted at mends)

    -- a value at a new key
    pub raised_new : (m n : FinMap R X) (k : K) (x : X) → get m k ≡ None → n ≡ insert m k x → RaisesAt f m n k x × TakesBack undo m n ((k, None) ∷ [])
    raised_new m n k x none inserted = (raised o same f m n k x x inserted (ap (λ own. maybe f own (Some x)) none), back_new m n k x inserted none)

  -- what takes one change back
  module _ {U : Type 0} (undo : U → X → X) where
    -- a change taken back in place, at a key that is gone, and at a key that was new
    pub mended_here : (m : FinMap R X) (es fs : List (K × X)) (k : K) (own : X) (u : U) → from_entries es ≡ m → Some own ≡ lookup (is_at (R k)) es
        → ((q : K) → lookup (is_at (R q)) fs ≡ cond (is_at (R k) q) (Some (undo u own)) (lookup (is_at (R q)) es)) → MendsAt undo m (from_entries fs) k (Some u)
    mended_here m es fs k own u view had puts q =
        ap (λ m. get m q) (view-insert o same es fs k (undo u own) puts ∙ ap (λ m. insert m k (undo u own)) view) ∙ get-insert o m k (undo u own) q
        ∙ by_case (eq_by_cmp R q k) refl
      where
        by_case : (b : Bool) → eq_by_cmp R q k ≡ b → cond b (Some (undo u own)) (get m q) ≡ (if b then option_map (undo u) (get m q) else get m q)
        by_case true e = ap (option_map (undo u)) (had ∙ sym (get-view o es k) ∙ ap (λ m. get m k) view ∙ ap (get m) (sym (ties_are_equal same q k e)))
        by_case false e = refl

    -- a change taken back at a key that is gone
    pub mended_none : (m : FinMap R X) (es fs : List (K × X)) (k : K) (u : U) → from_entries es ≡ m → None ≡ lookup (is_at (R k)) es → fs ≡ es
        → MendsAt undo m (from_entries fs) k (Some u)
    mended_none m es fs k u view had stays q = ap (λ es. get (from_entries {R = R} es) q) stays ∙ ap (λ m. get m q) view ∙ by_case (eq_by_cmp R q k) refl
      where
        by_case : (b : Bool) → eq_by_cmp R q k ≡ b → get m q ≡ (if b then option_map (undo u) (get m q) else get m q)
        by_case true e =
            let none : get m q ≡ None = ap (get m) (ties_are_equal same q k e) ∙ ap (λ m. get m k) (sym view) ∙ get-view o es k ∙ sym had in
            none ∙ ap (option_map (undo u)) (sym none)
        by_case false e = refl

    -- a change taken back at a key that was new
    pub mended_new : (m : FinMap R X) (es fs : List (K × X)) (k : K) → from_entries es ≡ m
        → ((q : K) → lookup (is_at (R q)) fs ≡ cond (is_at (R k) q) None (lookup (is_at (R q)) es)) → MendsAt undo m (from_entries fs) k (None)
    mended_new m es fs k view puts q =
        get-view o fs q ∙ puts q ∙ ap (λ b. cond b None (lookup (is_at (R q)) es)) ((eq_by_cmp_equiv o).symm k q)
        ∙ ap (cond (eq_by_cmp R q k) None) (sym (get-view o es q) ∙ ap (λ m. get m q) view) ∙ as_if (eq_by_cmp R q k)
      where
        as_if : (b : Bool) → cond b None (get m q) ≡ (if b then None else get m q)
        as_if true = refl
        as_if false = refl

-- what a log takes back, as a map
module _ {K X U : Type 0} {R : K → K → Ordering} (o : IsTotalOrder R) (same : IsAntisymmetric R) (undo : U → X → X) where
  -- a map that a log leaves at each key is what it takes back
  pub is_taken_back : (m n : FinMap R X) (log : List (K × Option U)) → ((q : K) → get n q ≡ back_at R undo log q (get m q)) → n ≡ taken_back undo log m
  is_taken_back m n log h = same_map o same n (taken_back undo log m) (λ q. h q ∙ sym (get-taken_back o same undo log m q))

  -- what a log takes back is the map before
  pub taken_back-is : (m n : FinMap R X) (log : List (K × Option U)) → TakesBack undo m n log → taken_back undo log n ≡ m
  taken_back-is m n log h = same_map o same (taken_back undo log n) m (λ q. get-taken_back o same undo log n q ∙ h q)

-- a list of one
pub only_one : {X : Type 0} (es : List X) (x : X) → length es ≡ 1 → slice_get es 0 ≡ Some x → es ≡ x ∷ []
only_one [] x n e = grind arith
only_one (y ∷ []) x n e = cc (e)
only_one (y ∷ z ∷ es) x n e = grind arith

module _ {K X : Type 0} {R : K → K → Ordering} (o : IsTotalOrder R) (same : IsAntisymmetric R) where
  -- a map of one entry
  pub has_only : (m : FinMap R X) (es : List (K × X)) (k : K) (x : X) → from_entries es ≡ m → es ≡ (k, x) ∷ [] → (q : K)
      → get m q ≡ (if eq_by_cmp R q k then Some x else None)
  has_only m es k x view one q = ap (λ m. get m q) (sym view) ∙ get-view o es q ∙ ap (lookup (is_at (R q))) one

  -- a value joined in without a log: in place, at a new key, and where the key is not there
  pub joined_here : (f : X → X → X) (m : FinMap R X) (es fs : List (K × X)) (k : K) (own x next : X) → from_entries es ≡ m
      → Some own ≡ lookup (is_at (R k)) es → f own x ≡ next
      → ((q : K) → lookup (is_at (R q)) fs ≡ cond (is_at (R k) q) (Some next) (lookup (is_at (R q)) es)) → RaisesAt f m (from_entries fs) k x
  joined_here f m es fs k own x next view had joins puts = (raised_here o same f (λ u x. u) m es fs k own x next own view had joins refl puts).0

  -- a value joined in at a new key
  pub joined_new : (f : X → X → X) (m n : FinMap R X) (k : K) (x : X) → get m k ≡ None → n ≡ insert m k x → RaisesAt f m n k x
  joined_new f m n k x none inserted = raised o same f m n k x x inserted (ap (λ own. maybe f own (Some x)) none)

  -- a key that is not there, and a map that stays
  pub not_here : (m : FinMap R X) (es fs : List (K × X)) (k : K) → from_entries es ≡ m → None ≡ lookup (is_at (R k)) es → fs ≡ es
      → (get m k ≡ None) × (from_entries fs ≡ m)
  not_here m es fs k view had stays = (ap (λ m. get m k) (sym view) ∙ get-view o es k ∙ sym had, ap (λ es. from_entries {R = R} es) stays ∙ view)

  -- a map of one value joined in
  pub one_joined : (f : X → X → X) (m n other : FinMap R X) (k : K) (x : X) → RaisesAt f m n k x
      → ((q : K) → get other q ≡ (if eq_by_cmp R q k then Some x else None)) → (q : K) → get n q ≡ maybe f (get m q) (get other q)
  one_joined f m n other k x raises one q = raises q ∙ ap (maybe f (get m q)) (sym (one q))

-- what holds of any answer holds of an error
pub on_err : {T E P : Type 0} (r : Result T E) → P → OnErr r P
on_err (Ok x) p = tt
on_err (Err e) p = p

-- A tree map seen as the finite map of its entries: what a key finds, what an insertion, a removal,
-- a `retain` and a loop over the entries leave, how many there are. Of any keys in a total order
-- and any values.
use Rattle.std.proofs.Common.{◌≡◌, Bool, true, false, cond, ◌+◌, length, is_some, add-one, List, [], ◌∷◌, Option, Some, None, refl, sym, ap, subst, ◌∙◌}
use Rattle.std.specs.Prelude.{◌&&◌, T, if◌then◌else◌}
use Rattle.std.specs.declared.cmp.Ordering.{Ordering}
use Rattle.std.specs.declared.cmp.Ordering.TheVariants.{Less}
use Rattle.std.specs.Ordering.{is_lt, eq_by_cmp}
use Rattle.std.specs.Option.{option_and_then}
use Rattle.std.specs.List.{AllByRecursion}
use Rattle.std.specs.List.Sorted.{IsStrictlySortedBy}
use Rattle.std.specs.Map.{lookup, keys_of}
use Rattle.std.specs.Map.Calls.{RetainsPairs}
use Rattle.std.specs.BTreeMap.{is_at}
use Rattle.std.specs.Cmp.{IsTotalOrder, eq_by_cmp_equiv}
use Rattle.std.specs.FinMap.{FinMap, IsAntisymmetric, len, len-empty, len-insert, get, insert, find}
use Rattle.std.specs.FinMap.{from_entries, get-from_entries, get-insert, remove, get-remove, same_map}
use Rattle.std.specs.FinMap.{entries, from_sorted, get-from_sorted, entries-from_sorted}
use Rattle.std.specs.FinMap.Entries.{is_sorted, below_all}
use Rattle.std.proofs.lemmas.Map.{NonePasses, lookup-none}
use Rattle.std.proofs.lemmas.Map.Keys.{sorted_head, sorted_tail, IsDistinct-head, IsDistinct-from_sorted}
use Rattle.std.proofs.lemmas.Map.Entries.{none_past_head}
use Rattle.cds_stamps.specs.Semilattice.{maybe, join_of}
use Rattle.cds_stamps.specs.Keyed.{ties_are_equal}
use Rattle.cds_stamps.specs.Joins.{join_maps, get-join_maps}

-- a tree's look-up is a finite map's
find-lookup : {K X : Type 0} (R : K → K → Ordering) (es : List (K × X)) (q : K) → find R q es ≡ lookup (is_at (R q)) es
find-lookup R [] q = refl
find-lookup R (e ∷ es) q = ap (cond (is_at (R q) e.0) (Some e.1)) (find-lookup R es q)

-- what an entry has at a key
abbrev pub entry_at : {K X : Type 0} → (K → K → Ordering) → K → K × X → Option X
entry_at R q e = if is_at (R q) e.0 then Some e.1 else None

-- among entries in order a key is there once, so that joining all of its values is to look it up
pub join_of-entries : {K X : Type 0} {R : K → K → Ordering} → IsTotalOrder R → (f : X → X → X) (q : K) (es : List (K × X))
    → IsStrictlySortedBy R (keys_of es) → join_of f (entry_at R q) es ≡ lookup (is_at (R q)) es
join_of-entries o f q [] sorted = refl
join_of-entries {R = R} o f q (e ∷ es) sorted = by_case (is_at (R q) e.0) refl (join_of-entries o f q es (sorted_tail R e.0 (keys_of es) sorted))
  where
    by_case : (b : Bool) → is_at (R q) e.0 ≡ b → join_of f (entry_at R q) es ≡ lookup (is_at (R q)) es
        → maybe f (if b then Some e.1 else None) (join_of f (entry_at R q) es) ≡ cond b (Some e.1) (lookup (is_at (R q)) es)
    by_case true at rest =
        let distinct = IsDistinct-from_sorted R (keys_of (e ∷ es)) sorted in
        ap (maybe f (Some e.1)) (rest ∙ lookup-none (is_at (R q)) es (none_past_head (eq_by_cmp_equiv o) q e es distinct at))
    by_case false at rest = rest

module _ {K X : Type 0} {R : K → K → Ordering} (o : IsTotalOrder R) where
  -- what the map of the entries has at a key
  pub get-view : (es : List (K × X)) (q : K) → get (from_entries {R = R} es) q ≡ lookup (is_at (R q)) es
  get-view es q = get-from_entries o es q ∙ find-lookup R es q

  -- entries that differ at one key make maps that differ there
  pub view-insert : IsAntisymmetric R → (es fs : List (K × X)) (k : K) (x : X)
      → ((q : K) → lookup (is_at (R q)) fs ≡ cond (is_at (R k) q) (Some x) (lookup (is_at (R q)) es))
      → from_entries {R = R} fs ≡ insert (from_entries es) k x
  view-insert same es fs k x h = same_map o same _ _ (λ q.
      get-view fs q ∙ h q ∙ ap (λ b. cond b (Some x) (lookup (is_at (R q)) es)) ((eq_by_cmp_equiv o).symm k q)
      ∙ sym (get-insert o (from_entries es) k x q ∙ ap (cond (is_at (R q) k) (Some x)) (get-view es q)))

  -- entries of which one key is gone make the map without it
  pub view-remove : IsAntisymmetric R → (es fs : List (K × X)) (k : K)
      → ((q : K) → lookup (is_at (R q)) fs ≡ cond (is_at (R k) q) None (lookup (is_at (R q)) es))
      → from_entries {R = R} fs ≡ remove (from_entries es) k
  view-remove same es fs k h = same_map o same _ _ (λ q.
      get-view fs q ∙ h q ∙ ap (λ b. cond b None (lookup (is_at (R q)) es)) ((eq_by_cmp_equiv o).symm k q)
      ∙ sym (get-remove o (from_entries es) k q ∙ ap (cond (is_at (R q) k) None) (get-view es q)))

-- a loop's step: one entry joined in, the others still to come
pub entry_joined : {K X : Type 0} (R : K → K → Ordering) (f : X → X → X) → ((x y z : Option X) → maybe f (maybe f x y) z ≡ maybe f x (maybe f y z))
    → (q : K) (before after goal : Option X) (k : K) (x : X) (es rest : List (K × X))
    → es ≡ (k, x) ∷ rest → after ≡ maybe f before (if is_at (R q) k then Some x else None)
    → maybe f before (join_of f (entry_at R q) es) ≡ goal → maybe f after (join_of f (entry_at R q) rest) ≡ goal
entry_joined R f assoc q before after goal k x es rest first put is =
    ap (λ a. maybe f a (join_of f (entry_at R q) rest)) put
    ∙ assoc before (if is_at (R q) k then Some x else None) (join_of f (entry_at R q) rest)
    ∙ ap (λ es. maybe f before (join_of f (entry_at R q) es)) (sym first) ∙ is

-- a value joined in at a key, and what each key then has
pub raised : {K X : Type 0} {R : K → K → Ordering} → IsTotalOrder R → IsAntisymmetric R → (f : X → X → X) (m n : FinMap R X) (k : K) (x next : X)
    → n ≡ insert m k next → maybe f (get m k) (Some x) ≡ Some next → (q : K) → get n q ≡ maybe f (get m q) (if eq_by_cmp R q k then Some x else None)
raised {X = X} {R = R} o same f m n k x next inserted is q = ap (λ n. get n q) inserted ∙ get-insert o m k next q ∙ by_case (eq_by_cmp R q k) refl
  where
    alone : (y : Option X) → y ≡ maybe f y None
    alone None = refl
    alone (Some y) = refl

    by_case : (b : Bool) → eq_by_cmp R q k ≡ b → cond b (Some next) (get m q) ≡ maybe f (get m q) (if b then Some x else None)
    by_case true e = sym is ∙ ap (λ k. maybe f (get m k) (Some x)) (sym (ties_are_equal same q k e))
    by_case false e = alone (get m q)

-- a loop's end: no entry is to come, and the map is the join
pub all_joined : {K X : Type 0} {R : K → K → Ordering} → IsTotalOrder R → IsAntisymmetric R → (f : X → X → X) (old other new : FinMap R X) (es : List (K × X))
    → ((q : K) → maybe f (get new q) (join_of f (entry_at R q) es) ≡ maybe f (get old q) (get other q)) → es ≡ [] → new ≡ join_maps f old other
all_joined {X = X} {R = R} o same f old other new es h none = same_map o same new (join_maps f old other) (λ q.
    alone (get new q) ∙ ap (λ es. maybe f (get new q) (join_of f (entry_at R q) es)) (sym none) ∙ h q ∙ sym (get-join_maps o same f old other q))
  where
    alone : (y : Option X) → y ≡ maybe f y None
    alone None = refl
    alone (Some y) = refl

-- what `retain` leaves of each value, where the closure stays as it was
pub retain_left : {F K X : Type 0} (T : F → K → X → Bool → X → F → Type 0) {R : K → K → Ordering} → IsTotalOrder R
    → (g : X → Option X) (p : X → Bool) (u : X → X) (f : F)
    → ((v : X) → (if p v then Some (u v) else None) ≡ g v)
    → ((k : K) (v : X) (b : Bool) (w : X) (f' : F) → T f k v b w f' → (b ≡ p v) × (w ≡ u v) × (f' ≡ f))
    → (es kept : List (K × X)) → IsStrictlySortedBy R (keys_of es) → RetainsPairs T f es kept → (q : K)
    → lookup (is_at (R q)) kept ≡ option_and_then g (lookup (is_at (R q)) es)
retain_left T {R} o g p u f gives call [] kept sorted h q = ap (lookup (is_at (R q))) h
retain_left {X = X} T {R} o g p u f gives call (e ∷ es) kept sorted h q =
    let left = call e.0 e.1 h.0 h.1 h.2 h.4 in
    ap (lookup (is_at (R q))) h.6
    ∙ at (is_at (R q) e.0) h.0 refl (ap (λ b. if b then Some h.1 else None) left.0 ∙ ap (λ w. if p e.1 then Some w else None) left.1 ∙ gives e.1)
    (retain_left T o g p u f gives call es h.3 (sorted_tail R e.0 (keys_of es) sorted) (subst (λ f'. RetainsPairs T f' es h.3) left.2 h.5) q)
  where
    at : (t b : Bool) → is_at (R q) e.0 ≡ t → (if b then Some h.1 else None) ≡ g e.1 → lookup (is_at (R q)) h.3 ≡ option_and_then g (lookup (is_at (R q)) es)
        → lookup (is_at (R q)) (cond b ((e.0, h.1) ∷ h.3) h.3) ≡ option_and_then g (cond t (Some e.1) (lookup (is_at (R q)) es))
    at true true p is ih = ap (λ t. cond t (Some h.1) (lookup (is_at (R q)) h.3)) p ∙ is
    at true false p is ih =
        let distinct = IsDistinct-from_sorted R (keys_of (e ∷ es)) sorted in
        ih ∙ ap (option_and_then g) (lookup-none (is_at (R q)) es (none_past_head (eq_by_cmp_equiv o) q e es distinct p)) ∙ is
    at false true p is ih = ap (λ t. cond t (Some h.1) (lookup (is_at (R q)) h.3)) p ∙ ih
    at false false p is ih = ih

-- a key below each key of the entries is none of them
not_at : {K X : Type 0} (R : K → K → Ordering) (k : K) (es : List (K × X)) → AllByRecursion (λ y. eq_by_cmp R k y ≡ false) (keys_of es)
    → NonePasses (is_at (R k)) es
not_at R k [] a = tt
not_at R k (e ∷ es) a = (a.0, not_at R k es a.1)

-- how many keys the map has
pub len-view : {K X : Type 0} {R : K → K → Ordering} → IsTotalOrder R → (es : List (K × X)) → IsStrictlySortedBy R (keys_of es)
    → len (from_entries {R = R} es) ≡ length es
len-view {X = X} {R = R} o [] sorted = len-empty R X
len-view {R = R} o (e ∷ es) sorted =
    let distinct = IsDistinct-from_sorted R (keys_of (e ∷ es)) sorted in
    let other = not_at R e.0 es (IsDistinct-head (eq_by_cmp R) e.0 (keys_of es) distinct) in
    let none : get (from_entries {R = R} es) e.0 ≡ None = get-view o es e.0 ∙ lookup-none (is_at (R e.0)) es other in
    len-insert o (from_entries es) e.0 e.1 ∙ ap (λ x. cond (is_some x) (len (from_entries {R = R} es)) (len (from_entries {R = R} es) + 1)) none
    ∙ ap (λ n. n + 1) (len-view o es (sorted_tail R e.0 (keys_of es) sorted)) ∙ add-one (length es)

-- entries in order, as finite maps test them
below_each : {K X : Type 0} (R : K → K → Ordering) (k : K) (es : List (K × X)) → AllByRecursion (λ y. R k y ≡ Less) (keys_of es) → below_all R k es ≡ true
below_each R k [] a = refl
below_each R k (e ∷ es) a = ap (λ o. is_lt o && below_all R k es) a.0 ∙ below_each R k es a.1

is_sorted-view : {K X : Type 0} (R : K → K → Ordering) (es : List (K × X)) → IsStrictlySortedBy R (keys_of es) → is_sorted R es ≡ true
is_sorted-view R [] h = refl
is_sorted-view R (e ∷ es) h = ap (λ b. b && is_sorted R es) (below_each R e.0 es (sorted_head R e.0 (keys_of es) h))
    ∙ is_sorted-view R es (sorted_tail R e.0 (keys_of es) h)

-- the entries of the map of entries in order
pub entries-view : {K X : Type 0} {R : K → K → Ordering} → IsTotalOrder R → IsAntisymmetric R → (es : List (K × X))
    → IsStrictlySortedBy R (keys_of es) → entries (from_entries {R = R} es) ≡ es
entries-view {R = R} o same es sorted =
    let t : T (is_sorted R es) = subst T (sym (is_sorted-view R es sorted)) tt in
    ap entries (same_map o same (from_entries {R = R} es) (from_sorted es) (λ q. get-from_entries o es q ∙ sym (get-from_sorted R es q t)))
    ∙ entries-from_sorted R es t

-- a loop's step over items of any kind, of which g says what they have
pub item_joined : {T X : Type 0} (f : X → X → X) → ((x y z : Option X) → maybe f (maybe f x y) z ≡ maybe f x (maybe f y z))
    → (g : T → Option X) (before after goal : Option X) (e : T) (es rest : List T)
    → es ≡ e ∷ rest → after ≡ maybe f before (g e) → maybe f before (join_of f g es) ≡ goal → maybe f after (join_of f g rest) ≡ goal
item_joined f assoc g before after goal e es rest first put is =
    ap (λ a. maybe f a (join_of f g rest)) put ∙ assoc before (g e) (join_of f g rest) ∙ ap (λ es. maybe f before (join_of f g es)) (sym first) ∙ is

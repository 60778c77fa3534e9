-- Loops that put a part of one map into another, of each entry what g gives at its key, if
-- anything; and loops that ask whether g gives each value whole, or whether each value is valid. Of
-- any keys in an exact total order and any values.
use Rattle.std.proofs.Common.{◌≡◌, ◌↔◌, Bool, true, false, cond, List, [], ◌∷◌, Option, Some, None, refl, sym, ap, subst, ◌∙◌}
use Rattle.std.specs.Prelude.{IfSome, if◌then◌else◌}
use Rattle.std.specs.declared.cmp.Ordering.{Ordering}
use Rattle.std.specs.Ordering.{eq_by_cmp}
use Rattle.std.specs.Option.{option_and_then}
use Rattle.std.specs.List.{AllByRecursion}
use Rattle.std.specs.List.Sorted.{IsStrictlySortedBy}
use Rattle.std.specs.Map.{lookup, keys_of}
use Rattle.std.specs.BTreeMap.{is_at}
use Rattle.std.specs.Cmp.{IsTotalOrder, eq_by_cmp_equiv}
use Rattle.std.specs.FinMap.{FinMap, IsAntisymmetric, get, empty, insert, from_entries, get-empty, get-insert, same_map}
use Rattle.std.proofs.lemmas.Map.{lookup-none}
use Rattle.std.proofs.lemmas.Map.Keys.{sorted_tail, IsDistinct-from_sorted}
use Rattle.std.proofs.lemmas.Map.Entries.{none_past_head}
use Rattle.cds_stamps.specs.Semilattice.{maybe, join_of}
use Rattle.cds_stamps.specs.Keyed.{ties_are_equal, map_some, get-map_some}
use Rattle.cds_stamps.specs.Joins.{EachValue}
use Rattle.cds_stamps.proofs.TreeViews.{entry_at, get-view, item_joined}
use Rattle.cds_stamps.proofs.ValidJoins.{each_of_map}

module _ {K X Y : Type 0} {R : K → K → Ordering} (o : IsTotalOrder R) (same : IsAntisymmetric R) (g : K → X → Option Y) where
  abbrev second : Y → Y → Y
  second x y = y

  -- what an entry gives at a key
  abbrev given : K → K × X → Option Y
  given q e = option_and_then (g q) (entry_at R q e)

  -- the new map, with what the entries still to come give, is the part
  abbrev pub PutsPart : FinMap R X → FinMap R Y → List (K × X) → Type 0
  PutsPart m new es = (q : K) → maybe second (get new q) (join_of second (given q) es) ≡ option_and_then (g q) (get m q)

  alone : (x : Option Y) → maybe second x None ≡ x
  alone None = refl
  alone (Some x) = refl

  last_counts : (x : Option Y) (y : Y) → Some y ≡ maybe second x (Some y)
  last_counts None y = refl
  last_counts (Some x) y = refl

  in_turn : (x y z : Option Y) → maybe second (maybe second x y) z ≡ maybe second x (maybe second y z)
  in_turn None y z = refl
  in_turn (Some x) None z = refl
  in_turn (Some x) (Some y) None = refl
  in_turn (Some x) (Some y) (Some z) = refl

  all_given : (q : K) (es : List (K × X)) → IsStrictlySortedBy R (keys_of es)
      → join_of second (given q) es ≡ option_and_then (g q) (lookup (is_at (R q)) es)
  all_given q [] sorted = refl
  all_given q (e ∷ es) sorted = by_case (is_at (R q) e.0) refl (all_given q es (sorted_tail R e.0 (keys_of es) sorted))
    where
      by_case : (b : Bool) → is_at (R q) e.0 ≡ b → join_of second (given q) es ≡ option_and_then (g q) (lookup (is_at (R q)) es)
          → maybe second (option_and_then (g q) (if b then Some e.1 else None)) (join_of second (given q) es)
          ≡ option_and_then (g q) (cond b (Some e.1) (lookup (is_at (R q)) es))
      by_case true at rest =
          let distinct = IsDistinct-from_sorted R (keys_of (e ∷ es)) sorted in
          let none : lookup (is_at (R q)) es ≡ None = lookup-none (is_at (R q)) es (none_past_head (eq_by_cmp_equiv o) q e es distinct at) in
          ap (maybe second (g q e.1)) (rest ∙ ap (option_and_then (g q)) none) ∙ alone (g q e.1)
      by_case false at rest = rest

  -- nothing is put yet
  pub part_starts : (m : FinMap R X) (new : FinMap R Y) (es items : List (K × X)) → from_entries es ≡ m → IsStrictlySortedBy R (keys_of es) → items ≡ es
      → new ≡ empty → PutsPart m new items
  part_starts m new es items view sorted all nothing q =
      ap (λ n. maybe second (get n q) (join_of second (given q) items)) nothing
      ∙ ap (λ x. maybe second x (join_of second (given q) items)) (get-empty R q)
      ∙ ap (join_of second (given q)) all ∙ all_given q es sorted ∙ ap (option_and_then (g q)) (sym (get-view o es q) ∙ ap (λ m. get m q) view)

  -- one more is put
  pub part_put : (m : FinMap R X) (old new : FinMap R Y) (k : K) (x : X) (y : Y) (es rest : List (K × X)) → es ≡ (k, x) ∷ rest → g k x ≡ Some y
      → new ≡ insert old k y → PutsPart m old es → PutsPart m new rest
  part_put m old new k x y es rest first gives put is q =
      item_joined second in_turn (given q) (get old q) (get new q) (option_and_then (g q) (get m q)) (k, x) es rest first
      (ap (λ n. get n q) put ∙ get-insert o old k y q ∙ by_case (eq_by_cmp R q k) refl) (is q)
    where
      by_case : (b : Bool) → eq_by_cmp R q k ≡ b → cond b (Some y) (get old q) ≡ maybe second (get old q) (option_and_then (g q) (if b then Some x else None))
      by_case true at = last_counts (get old q) y ∙ ap (maybe second (get old q)) (sym gives ∙ ap (λ k. g k x) (sym (ties_are_equal same q k at)))
      by_case false at = sym (alone (get old q))

  -- one gives nothing
  pub part_passed : (m : FinMap R X) (new : FinMap R Y) (k : K) (x : X) (es rest : List (K × X)) → es ≡ (k, x) ∷ rest → g k x ≡ None
      → PutsPart m new es → PutsPart m new rest
  part_passed m new k x es rest first gives is q =
      item_joined second in_turn (given q) (get new q) (get new q) (option_and_then (g q) (get m q)) (k, x) es rest first
      (by_case (eq_by_cmp R q k) refl) (is q)
    where
      by_case : (b : Bool) → eq_by_cmp R q k ≡ b → get new q ≡ maybe second (get new q) (option_and_then (g q) (if b then Some x else None))
      by_case true at = sym (alone (get new q)) ∙ ap (maybe second (get new q)) (sym gives ∙ ap (λ k. g k x) (sym (ties_are_equal same q k at)))
      by_case false at = sym (alone (get new q))

  -- all is put
  pub part_done : (m : FinMap R X) (new : FinMap R Y) (es : List (K × X)) → es ≡ [] → PutsPart m new es → (q : K) → get new q ≡ option_and_then (g q) (get m q)
  part_done m new es none is q = sym (alone (get new q)) ∙ ap (λ es. maybe second (get new q) (join_of second (given q) es)) (sym none) ∙ is q

module _ {K X : Type 0} {R : K → K → Ordering} (o : IsTotalOrder R) (same : IsAntisymmetric R) (g : X → Option X) where
  -- g gives each value whole
  abbrev pub IsWhole : List (K × X) → Type 0
  IsWhole = AllByRecursion (λ e. g e.1 ≡ Some e.1)

  -- the map is whole exactly if the entries still to come are
  abbrev pub WholeIf : List (K × X) → FinMap R X → Type 0
  WholeIf es m = IsWhole es ↔ (map_some g m ≡ m)

  whole_at : (es : List (K × X)) (q : K) → IsWhole es → option_and_then g (lookup (is_at (R q)) es) ≡ lookup (is_at (R q)) es
  whole_at [] q whole = refl
  whole_at (e ∷ es) q whole = by_case (is_at (R q) e.0) (whole_at es q whole.1)
    where
      by_case : (b : Bool) → option_and_then g (lookup (is_at (R q)) es) ≡ lookup (is_at (R q)) es
          → option_and_then g (cond b (Some e.1) (lookup (is_at (R q)) es)) ≡ cond b (Some e.1) (lookup (is_at (R q)) es)
      by_case true rest = whole.0
      by_case false rest = rest

  given_whole : (x : Option X) → option_and_then g x ≡ x → IfSome x (λ y. g y ≡ Some y)
  given_whole None is = tt
  given_whole (Some x) is = is

  -- all entries are to come
  pub whole_starts : (m : FinMap R X) (es items : List (K × X)) → from_entries es ≡ m → IsStrictlySortedBy R (keys_of es) → items ≡ es → WholeIf items m
  whole_starts m es items view sorted all = (
    λ whole. same_map o same (map_some g m) m (λ q.
        let at : get m q ≡ lookup (is_at (R q)) es = ap (λ m. get m q) (sym view) ∙ get-view o es q in
        get-map_some o same g m q ∙ ap (option_and_then g) at ∙ whole_at es q (subst IsWhole all whole) ∙ sym at),
    λ is. subst IsWhole (sym all) (each_of_map o (λ x. g x ≡ Some x) m es view sorted (λ q.
        given_whole (get m q) (sym (get-map_some o same g m q) ∙ ap (λ n. get n q) is))),
  )

module _ {K X : Type 0} {R : K → K → Ordering} (o : IsTotalOrder R) (V : X → Type 0) where
  -- each value of the map is valid exactly if those still to come are
  abbrev pub EachIf : List (K × X) → FinMap R X → Type 0
  EachIf es m = AllByRecursion (λ e. V e.1) es ↔ EachValue V m

  each_at : (es : List (K × X)) (q : K) → AllByRecursion (λ e. V e.1) es → IfSome (lookup (is_at (R q)) es) V
  each_at [] q all = tt
  each_at (e ∷ es) q all = by_case (is_at (R q) e.0) (each_at es q all.1)
    where
      by_case : (b : Bool) → IfSome (lookup (is_at (R q)) es) V → IfSome (cond b (Some e.1) (lookup (is_at (R q)) es)) V
      by_case true others = all.0
      by_case false others = others

  -- all entries are to come
  pub each_starts : (m : FinMap R X) (es items : List (K × X)) → from_entries es ≡ m → IsStrictlySortedBy R (keys_of es) → items ≡ es → EachIf items m
  each_starts m es items view sorted all = (
    λ valid q. subst (λ x. IfSome x V) (sym (get-view o es q) ∙ ap (λ m. get m q) view) (each_at es q (subst (AllByRecursion (λ e. V e.1)) all valid)),
    λ valid. subst (AllByRecursion (λ e. V e.1)) (sym all) (each_of_map o V m es view sorted valid),
  )

-- How many entries of a table show, where the names that do are known.
use Rattle.std.proofs.Common.{◌≡◌, ◌≢◌, ℕ, ◌+◌, ◌<◌, ◌≤◌, zero, suc, Bool, true, false, ◌&&◌, ◌||◌, cond, List, [], ◌∷◌, map, Option, Some, None, refl, sym}
use Rattle.std.proofs.Common.{ap, ◌∙◌, subst, arith, ◌⊎◌, inl, inr, ⊎_elim}
use Rattle.std.specs.Prelude.{T, IsSome, is_some, filter}
use Rattle.std.specs.declared.cmp.Ordering.{Ordering}
use Rattle.std.specs.declared.cmp.Ordering.TheVariants.{Less, Equal, Greater}
use Rattle.std.specs.Cmp.{eq_by_cmp_equiv}
use Rattle.std.specs.Cmp.Lexicographic.{nat_list_cmp_total}
use Rattle.std.specs.FinMap.{entries, entries_sorted, get-entries, find, is_sorted}
use Rattle.std.specs.FinMap.Entries.{below_all}
use Rattle.std.specs.List.{AllByRecursion, IsDistinct, list_any, range_with_len}
use Rattle.std.specs.List.Sorted.{IsStrictlySortedBy}
use Rattle.std.specs.Map.{keys_of, lookup}
use Rattle.std.specs.Option.{option_and_then}
use Rattle.std.specs.Ordering.{is_lt}
use Rattle.std.specs.Set.{is_member}
use Rattle.std.proofs.lemmas.Bool.{cases_lt, false≢true}
use Rattle.std.proofs.lemmas.List.{length-map}
use Rattle.std.proofs.lemmas.List.Sums.{length-filter}
use Rattle.std.proofs.lemmas.Map.Entries.{option_filter, lookup-filter-values}
use Rattle.std.proofs.lemmas.Map.Keys.{IsDistinct-from_sorted, IsDistinct-head, IsDistinct-tail, IsDistinct-cons}
use Rattle.std.proofs.lemmas.Map.Made.{is_some-lookup, length-from_same_keys}
use Rattle.cds_stamps.specs.Keyed.{ties_are_equal}
use Rattle.cds_stamps.specs.Octets.{octets_cmp, octets_exact, is_octets}
use Rattle.directory.specs.declared.entry.EntryCell.{EntryCell}
use Rattle.directory.specs.Entries.{Entries}
use Rattle.directory.specs.Shown.{Shown, shown_entry, shown_in, live_count}
use Rattle.directory.proofs.FragmentLaws.{same_octets}
use Rattle.cell_model.proofs.Lists.{or_cases, or_true}
use Rattle.cell_script.specs.Generated.{entry_name}
use Rattle.form_laws.proofs.Entries.{names_apart}

-- ---- the keys of a table

first_of : (a b : Bool) → T (a && b) → T a × T b
first_of true b h = (tt, h)
first_of false b h = absurd h

is_less : (r : Ordering) → T (is_lt r) → r ≡ Less
is_less Less h = refl
is_less Equal h = absurd h
is_less Greater h = absurd h

abbrev Rows : Type 0
Rows = List (List ℕ × EntryCell)

all_below : (k : List ℕ) (es : Rows) → T (below_all octets_cmp k es) → AllByRecursion (λ y. octets_cmp k y ≡ Less) (keys_of es)
all_below k [] h = tt
all_below k (e ∷ es) h =
    let p = first_of (is_lt (octets_cmp k e.0)) (below_all octets_cmp k es) h in (is_less (octets_cmp k e.0) p.0, all_below k es p.1)

keys_rise : (es : Rows) → T (is_sorted octets_cmp es) → IsStrictlySortedBy octets_cmp (keys_of es)
unfolding IsStrictlySortedBy
keys_rise [] h = tt
keys_rise (e ∷ es) h =
    let p = first_of (below_all octets_cmp e.0 es) (is_sorted octets_cmp es) h in (all_below e.0 es p.0, keys_rise es p.1)

find_of : (es : Rows) (q : List ℕ) → find octets_cmp q es ≡ lookup (is_octets q) es
find_of [] q = refl
find_of (e ∷ es) q = ap (cond (is_octets q e.0) (Some e.1)) (find_of es q)

-- ---- those that show

abbrev is_live : EntryCell → Bool
is_live c = is_some (shown_entry c)

abbrev live_rows : Rows → Rows
live_rows = filter (λ e. is_live e.1)

all_step : (P : List ℕ → Type 0) (e : List ℕ × EntryCell) (es : Rows) (b : Bool) → P e.0 → AllByRecursion P (keys_of es)
    → AllByRecursion P (keys_of (cond b (e ∷ es) es))
all_step P e es true here rest = (here, rest)
all_step P e es false here rest = rest

all_kept : (P : List ℕ → Type 0) (es : Rows) → AllByRecursion P (keys_of es) → AllByRecursion P (keys_of (live_rows es))
all_kept P [] h = tt
all_kept P (e ∷ es) h = all_step P e (live_rows es) (is_live e.1) h.0 (all_kept P es h.1)

distinct_step : (e : List ℕ × EntryCell) (es : Rows) (b : Bool) → AllByRecursion (λ y. is_octets e.0 y ≡ false) (keys_of es)
    → IsDistinct is_octets (keys_of es) → IsDistinct is_octets (keys_of (cond b (e ∷ es) es))
distinct_step e es true apart rest = IsDistinct-cons is_octets e.0 (keys_of es) apart rest
distinct_step e es false apart rest = rest

distinct_kept : (es : Rows) → IsDistinct is_octets (keys_of es) → IsDistinct is_octets (keys_of (live_rows es))
distinct_kept [] h = h
distinct_kept (e ∷ es) h =
    distinct_step e (live_rows es) (is_live e.1) (all_kept (λ y. is_octets e.0 y ≡ false) es (IsDistinct-head is_octets e.0 (keys_of es) h))
    (distinct_kept es (IsDistinct-tail is_octets e.0 (keys_of es) h))

live_or_not : (o : Option EntryCell) → is_some (option_filter is_live o) ≡ is_some (option_and_then shown_entry o)
live_or_not None = refl
live_or_not (Some c) = go (shown_entry c)
  where
    go : (s : Option Shown) → is_some (cond (is_some s) (Some c) None) ≡ is_some s
    go None = refl
    go (Some x) = refl

-- a name is that of an entry that shows exactly where the table shows it
live_member : (t : Entries) (q : List ℕ) → is_member is_octets (keys_of (live_rows (entries t))) q ≡ is_some (shown_in t q)
live_member t q =
    let distinct = IsDistinct-from_sorted octets_cmp (keys_of (entries t)) (keys_rise (entries t) (entries_sorted t)) in
    sym (is_some-lookup (is_octets q) (live_rows (entries t)))
    ∙ ap is_some (lookup-filter-values (eq_by_cmp_equiv nat_list_cmp_total) is_live q (entries t) distinct)
    ∙ live_or_not (lookup (is_octets q) (entries t))
    ∙ ap (λ (o : Option EntryCell). is_some (option_and_then shown_entry o)) (sym (find_of (entries t) q) ∙ sym (get-entries t q))

-- ---- the sixteen names

not_octets : (q n : List ℕ) → q ≢ n → is_octets q n ≡ false
not_octets q n apart = go (is_octets q n) refl
  where
    go : (b : Bool) → is_octets q n ≡ b → b ≡ false
    go true e = absurd (apart (ties_are_equal octets_exact q n e))
    go false e = refl

abbrev names : ℕ → ℕ → List (List ℕ)
names a n = map entry_name (range_with_len a n)

none_later : (n a b : ℕ) → a < b → b + n ≤ 16 → AllByRecursion (λ y. is_octets (entry_name a) y ≡ false) (names b n)
none_later zero a b lt few = tt
none_later (suc n) a b lt few =
    let apart : a ≢ b = omega arith in
    (not_octets (entry_name a) (entry_name b) (names_apart a b (omega arith) (omega arith) apart), none_later n a (b + 1) (omega arith) (omega arith))

names_distinct : (n a : ℕ) → a + n ≤ 16 → IsDistinct is_octets (names a n)
unfolding IsDistinct
names_distinct zero a few = tt
names_distinct (suc n) a few = (none_later n a (a + 1) (omega arith) (omega arith), names_distinct n (a + 1) (omega arith))

name_in : (n a k : ℕ) → a ≤ k → k < a + n → is_member is_octets (names a n) (entry_name k) ≡ true
name_in zero a k le lt = absurd (omega arith)
name_in (suc n) a k le lt = ⊎_elim
    (λ (e : k ≡ a).
    ap (λ (b : Bool). b || list_any (is_octets (entry_name k)) (names (a + 1) n))
    (ap (λ (i : ℕ). is_octets (entry_name k) (entry_name i)) (sym e) ∙ same_octets (entry_name k)))
    (λ (more : a < k). or_true (is_octets (entry_name k) (entry_name a)) _ (name_in n (a + 1) k (omega arith) (omega arith)))
    (equal_or_more a k le)
  where
    equal_or_more : (x y : ℕ) → x ≤ y → (y ≡ x) ⊎ (x < y)
    equal_or_more x y h = ⊎_elim (λ (l : x < y). inr l) (λ (l : y ≤ x). inl (omega arith)) (cases_lt x y)

name_of : (n a : ℕ) (q : List ℕ) → is_member is_octets (names a n) q ≡ true → (k : ℕ) × (k < a + n) × (q ≡ entry_name k)
name_of zero a q e = absurd (false≢true e)
name_of (suc n) a q e = ⊎_elim
    (λ (here : is_octets q (entry_name a) ≡ true). (a, omega arith, ties_are_equal octets_exact q (entry_name a) here))
    (λ (there : list_any (is_octets q) (names (a + 1) n) ≡ true).
    let w = name_of n (a + 1) q there in (w.0, (let lt = w.1 in omega (arith, lt)), w.2))
    (or_cases (is_octets q (entry_name a)) _ e)

both_ways : (a b : Bool) → (a ≡ true → b ≡ true) → (b ≡ true → a ≡ true) → a ≡ b
both_ways true b f g = sym (f refl)
both_ways false true f g = g refl
both_ways false false f g = refl

-- where a table shows exactly the sixteen entries, that is how many of its entries live
pub sixteen_live : (t : Entries) → ((k : ℕ) → k < 16 → IsSome (shown_in t (entry_name k)))
    → ((q : List ℕ) → IsSome (shown_in t q) → (k : ℕ) × (k < 16) × (q ≡ entry_name k)) → live_count t ≡ 16
sixteen_live t each only =
    let es : Rows = entries t in
    let distinct = distinct_kept es (IsDistinct-from_sorted octets_cmp (keys_of es) (keys_rise es (entries_sorted t))) in
    sym (length-filter (λ (e : List ℕ × EntryCell). is_live e.1) es) ∙ sym (length-map (live_rows es) (λ (e : List ℕ × EntryCell). e.0))
    ∙ length-from_same_keys (eq_by_cmp_equiv nat_list_cmp_total) (keys_of (live_rows es)) (names 0 16) distinct (names_distinct 16 0 (omega arith))
    (λ q. both_ways _ _
    (λ e. let w = only q (sym (live_member t q) ∙ e) in
    subst (λ (n : List ℕ). is_member is_octets (names 0 16) n ≡ true) (sym w.2) (name_in 16 0 w.0 (omega arith) w.1))
    (λ e. let w = name_of 16 0 q e in live_member t q ∙ subst (λ (n : List ℕ). is_some (shown_in t n) ≡ true) (sym w.2) (each w.0 w.1)))

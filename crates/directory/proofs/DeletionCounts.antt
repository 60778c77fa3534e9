-- How many deletions a table has: no more than it holds records.
use Rattle.std.proofs.Common.{◌≡◌, ℕ, ◌≤◌, Bool, true, false, cond, List, [], ◌∷◌, ◌++◌, map, length, Option, Some, None, sum_by}
use Rattle.std.proofs.Common.{refl, sym, ap, subst, ◌∙◌, ⊎_elim, arith}
use Rattle.std.specs.Prelude.{⊤, ◌&&◌, ◌||◌, not, if◌then◌else◌, IsSome}
use Rattle.std.specs.FinMap.{get, entries, len-entries}
use Rattle.std.specs.List.{Contains, IsDistinct, filter, flat_map, list_any}
use Rattle.std.specs.List.Sorted.{IsStrictlySortedBy}
use Rattle.std.specs.Ordering.{eq_by_cmp}
use Rattle.std.specs.Map.{lookup}
use Rattle.std.specs.Option.{option_and_then}
use Rattle.std.specs.Cmp.{eq_by_cmp_equiv}
use Rattle.std.proofs.lemmas.List.{length-append, length-map}
use Rattle.std.proofs.lemmas.List.Folds.{list_any-append}
use Rattle.std.proofs.lemmas.List.Concat.{length-flat_map, flat_map-cons}
use Rattle.std.proofs.lemmas.List.Sums.{sum_by-cons, sum_by-le-sum_by}
use Rattle.std.proofs.lemmas.Map.Keys.{IsDistinct-from_sorted}
use Rattle.std.proofs.lemmas.Map.Steps.{length-le_from_keys}
use Rattle.cds_stamps.specs.declared.stamp.Stamp.{Stamp}
use Rattle.cds_stamps.specs.Keyed.{ties_are_equal}
use Rattle.cds_stamps.specs.Stamps.{stamp_exact}
use Rattle.cds_stamps.proofs.ListMembers.{Contains-none, Contains-cases}
use Rattle.attr_sets.specs.declared.mark.ValueMark.{ValueMark}
use Rattle.attr_sets.specs.declared.cell.AttrCell.{AttrCell}
use Rattle.attr_sets.proofs.ShownLaws.{entry_of}
use Rattle.directory.specs.declared.entry.EntryCell.{EntryCell}
use Rattle.directory.specs.declared.deletions.What.{What}
use Rattle.directory.specs.declared.deletions.What.TheVariants.{Death, Clear, Absent}
use Rattle.directory.specs.declared.deletions.Deletion.{Deletion}
use Rattle.directory.specs.Entries.{Entries}
use Rattle.directory.specs.Held.{one_if_some, held_in_cell, held_in_entry, held_in}
use Rattle.directory.specs.Deletions.{is_at, is_absent, has_lost, is_lost, has_deletion, is_deletion}
use Rattle.directory.proofs.DeletionOrder.{derived, derived_cmp, deletion_total}
use Rattle.directory.proofs.DeletionSets.{kept_of}
use Rattle.directory.proofs.UpdateLaws.{or_left, or_right}

-- ---- the deletions of a table, one after another

-- what a function makes of what is there
abbrev listed : {A B : Type 0} → (A → B) → Option A → List B
listed f None = []
listed f (Some x) = f x ∷ []

abbrev deleted : List ℕ → What → Stamp → Deletion
deleted n w s = record { stamp = s; name = n; what = w }

abbrev of_mark : List ℕ → List ℕ → List ℕ × ValueMark → List Deletion
of_mark n a v = if v.1.present then [] else deleted n (Absent a v.0) v.1.stamp ∷ []

abbrev of_cell : List ℕ → List ℕ × AttrCell → List Deletion
of_cell n c = listed (deleted n (Clear c.0)) c.1.cleared ++ flat_map (of_mark n c.0) (entries c.1.values)

abbrev of_entry : List ℕ × EntryCell → List Deletion
of_entry e = listed (deleted e.0 Death) e.1.death ++ flat_map (of_cell e.0) (entries e.1.attrs)

abbrev deletions_in : Entries → List Deletion
deletions_in m = flat_map of_entry (entries m)

-- ---- they are no more than the records

length-listed : {A B : Type 0} (f : A → B) (x : Option A) → length (listed f x) ≡ one_if_some x
length-listed f None = refl
length-listed f (Some x) = refl

mark_few : (n a : List ℕ) (v : List ℕ × ValueMark) → length (of_mark n a v) ≤ 1
mark_few n a v = at v.1.present
  where
    at : (b : Bool) → length (if b then [] else deleted n (Absent a v.0) v.1.stamp ∷ []) ≤ 1
    at true = omega arith
    at false = omega arith

sum_ones : {X : Type 0} (xs : List X) → sum_by (λ _. 1) xs ≡ length xs
sum_ones [] = refl
sum_ones (x ∷ xs) = let first = sum_by-cons (λ _. 1) x xs in let rest = sum_ones xs in omega (arith, first, rest)

cell_few : (n : List ℕ) (c : List ℕ × AttrCell) → length (of_cell n c) ≤ held_in_cell c.1
cell_few n c =
    let es = entries c.1.values in
    let both = length-append (listed (deleted n (Clear c.0)) c.1.cleared) (flat_map (of_mark n c.0) es) in
    let clear = length-listed (deleted n (Clear c.0)) c.1.cleared in
    let marks = length-flat_map (of_mark n c.0) es in
    let few = sum_by-le-sum_by (λ v. length (of_mark n c.0 v)) (λ _. 1) es (mark_few n c.0) in
    let ones = sum_ones es in
    let all = len-entries c.1.values in
    omega (arith, both, clear, marks, few, ones, all)

entry_few : (e : List ℕ × EntryCell) → length (of_entry e) ≤ held_in_entry e.1
entry_few e =
    let es = entries e.1.attrs in
    let both = length-append (listed (deleted e.0 Death) e.1.death) (flat_map (of_cell e.0) es) in
    let death = length-listed (deleted e.0 Death) e.1.death in
    let cells = length-flat_map (of_cell e.0) es in
    let few = sum_by-le-sum_by (λ c. length (of_cell e.0 c)) (λ c. held_in_cell c.1) es (cell_few e.0) in
    omega (arith, both, death, cells, few)

table_few : (m : Entries) → length (deletions_in m) ≤ held_in m
table_few m =
    let all = length-flat_map of_entry (entries m) in
    let few = sum_by-le-sum_by (λ e. length (of_entry e)) (λ e. held_in_entry e.1) (entries m) entry_few in
    omega (arith, all, few)

-- ---- each deletion is among them

itself : (d : Deletion) → is_deletion d d ≡ true
itself = (eq_by_cmp_equiv deletion_total).refl

any_of : {A B : Type 0} (p : B → Bool) (f : A → List B) (xs : List A) (x : A) → Contains xs x → list_any p (f x) ≡ true
    → list_any p (flat_map f xs) ≡ true
any_of p f [] x c h = absurd (Contains-none x c)
any_of p f (y ∷ xs) x c h =
    ap (list_any p) (flat_map-cons f y xs) ∙ list_any-append p (f y) (flat_map f xs)
    ∙ ⊎_elim (λ is. or_left _ _ (ap (λ z. list_any p (f z)) is ∙ h)) (λ rest. or_right _ _ (any_of p f xs x rest h)) (Contains-cases y xs x c)

front : {B : Type 0} (p : B → Bool) (xs ys : List B) → list_any p xs ≡ true → list_any p (xs ++ ys) ≡ true
front p xs ys h = list_any-append p xs ys ∙ or_left _ _ h

behind : {B : Type 0} (p : B → Bool) (xs ys : List B) → list_any p ys ≡ true → list_any p (xs ++ ys) ≡ true
behind p xs ys h = list_any-append p xs ys ∙ or_right _ _ h

stamp_listed : (n : List ℕ) (w : What) (x : Option Stamp) (s : Stamp) → is_at x s ≡ true
    → list_any (is_deletion (deleted n w s)) (listed (deleted n w) x) ≡ true
stamp_listed n w None s h = cc (h)
stamp_listed n w (Some x) s h =
    or_left _ _ (ap (λ x. is_deletion (deleted n w s) (deleted n w x)) (ties_are_equal stamp_exact x s h) ∙ itself (deleted n w s))

mark_listed : (n a v : List ℕ) (m : ValueMark) (s : Stamp) → is_absent (Some m) s ≡ true
    → list_any (is_deletion (deleted n (Absent a v) s)) (of_mark n a (v, m)) ≡ true
mark_listed n a v m s h = at m.present h
  where
    at : (b : Bool) → (not b && is_at (Some m.stamp) s) ≡ true
        → list_any (is_deletion (deleted n (Absent a v) s)) (if b then [] else deleted n (Absent a v) m.stamp ∷ []) ≡ true
    at true h = cc (h)
    at false h = stamp_listed n (Absent a v) (Some m.stamp) s h

entry_listed : (n : List ℕ) (e : EntryCell) (s : Stamp) (w : What) → has_lost e s w ≡ true
    → list_any (is_deletion (deleted n w s)) (of_entry (n, e)) ≡ true
entry_listed n e s Death h =
    front (is_deletion (deleted n Death s)) (listed (deleted n Death) e.death) (flat_map (of_cell n) (entries e.attrs))
    (stamp_listed n Death e.death s h)
entry_listed n e s (Clear a) h = at (get e.attrs a) refl h
  where
    p : Deletion → Bool
    p = is_deletion (deleted n (Clear a) s)

    at : (c : Option AttrCell) → get e.attrs a ≡ c → is_at (option_and_then (λ c. c.cleared) c) s ≡ true → list_any p (of_entry (n, e)) ≡ true
    at None is h = cc (h)
    at (Some c) is h =
        behind p (listed (deleted n Death) e.death) (flat_map (of_cell n) (entries e.attrs))
        (any_of p (of_cell n) (entries e.attrs) (a, c) (entry_of e.attrs a c is)
        (front p (listed (deleted n (Clear a)) c.cleared) (flat_map (of_mark n a) (entries c.values)) (stamp_listed n (Clear a) c.cleared s h)))
entry_listed n e s (Absent a v) h = at (get e.attrs a) refl h
  where
    p : Deletion → Bool
    p = is_deletion (deleted n (Absent a v) s)

    of_value : (c : AttrCell) (m : Option ValueMark) → get c.values v ≡ m → is_absent m s ≡ true
        → list_any p (flat_map (of_mark n a) (entries c.values)) ≡ true
    of_value c None is h = cc (h)
    of_value c (Some m) is h = any_of p (of_mark n a) (entries c.values) (v, m) (entry_of c.values v m is) (mark_listed n a v m s h)

    at : (c : Option AttrCell) → get e.attrs a ≡ c → is_absent (option_and_then (λ c. get c.values v) c) s ≡ true
        → list_any p (of_entry (n, e)) ≡ true
    at None is h = cc (h)
    at (Some c) is h =
        behind p (listed (deleted n Death) e.death) (flat_map (of_cell n) (entries e.attrs))
        (any_of p (of_cell n) (entries e.attrs) (a, c) (entry_of e.attrs a c is)
        (behind p (listed (deleted n (Clear a)) c.cleared) (flat_map (of_mark n a) (entries c.values)) (of_value c (get c.values v) refl h)))

table_listed : (m : Entries) (d : Deletion) → has_deletion m d ≡ true → list_any (is_deletion d) (deletions_in m) ≡ true
table_listed m d h = at (get m d.name) refl h
  where
    at : (e : Option EntryCell) → get m d.name ≡ e → is_lost e d.stamp d.what ≡ true → list_any (is_deletion d) (deletions_in m) ≡ true
    at None is h = cc (h)
    at (Some e) is h = any_of (is_deletion d) of_entry (entries m) (d.name, e) (entry_of m d.name e is) (entry_listed d.name e d.stamp d.what h)

-- ---- so no more can be told apart

abbrev keyed : Deletion → Deletion × ⊤
keyed d = (d, tt)

found : (q : Deletion) (ds : List Deletion) → list_any (is_deletion q) ds ≡ true → IsSome (lookup (is_deletion q) (map keyed ds))
found q [] h = cc (h)
found q (d ∷ ds) h = at (is_deletion q d) h (found q ds)
  where
    at : (b : Bool) → (b || list_any (is_deletion q) ds) ≡ true → (list_any (is_deletion q) ds ≡ true → IsSome (lookup (is_deletion q) (map keyed ds)))
        → IsSome (cond b (Some tt) (lookup (is_deletion q) (map keyed ds)))
    at true h rest = refl
    at false h rest = rest h

-- deletions of a table, each once, are no more than it holds records
pub deletions-few : (m : Entries) (ds : List Deletion) → IsDistinct is_deletion ds
    → ((d : Deletion) → list_any (is_deletion d) ds ≡ true → has_deletion m d ≡ true) → length ds ≤ held_in m
deletions-few m ds distinct each =
    let some = length-le_from_keys (eq_by_cmp_equiv deletion_total) ds (map keyed (deletions_in m)) distinct (λ q h.
    found q (deletions_in m) (table_listed m q (each q h))) in
    let listed_all = length-map (deletions_in m) keyed in
    let few = table_few m in
    omega (arith, some, listed_all, few)

both_true : (a b : Bool) → (a && b) ≡ true → b ≡ true
both_true true b e = e
both_true false b e = cc (e)

-- so it is with what a sweep leaves of an ordered set
pub swept-few : (m : Entries) (ds left : List Deletion) → IsStrictlySortedBy derived left → left ≡ filter (has_deletion m) ds
    → length left ≤ held_in m
swept-few m ds left ordered is =
    deletions-few m left (subst (λ R. IsDistinct (eq_by_cmp R) left) derived_cmp (IsDistinct-from_sorted derived left ordered)) (λ d h.
    both_true (list_any (is_deletion d) ds) (has_deletion m d)
    (sym (ap (list_any (is_deletion d)) is ∙ kept_of (has_deletion m) ds d) ∙ h))

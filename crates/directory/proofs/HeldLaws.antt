-- How much is in a table without one of its deletions: less than in the table.
use Rattle.std.proofs.Common.{◌≡◌, ℕ, ◌+◌, ◌<◌, Bool, true, false, cond, List, [], ◌∷◌, Option, Some, None, sum_by, refl, sym, ap, ◌∙◌, arith, is_eq, is_some}
use Rattle.std.specs.Prelude.{if◌then◌else◌}
use Rattle.std.specs.Option.{option_and_then, option_map_or}
use Rattle.std.specs.declared.cmp.Ordering.{Ordering}
use Rattle.std.specs.declared.cmp.Ordering.TheVariants.{Less, Equal, Greater}
use Rattle.std.specs.Ordering.{eq_by_cmp}
use Rattle.std.specs.Cmp.{IsTotalOrder, tied_itself}
use Rattle.std.specs.Cmp.Lexicographic.{nat_list_cmp_total}
use Rattle.std.specs.FinMap.{FinMap, IsAntisymmetric, get, insert, remove, entries, find, put, len, get-insert, get-remove, get-entries, entries-insert}
use Rattle.std.specs.FinMap.{same_map, len-insert, len-empty}
use Rattle.std.specs.FinMap.Entries.{by_order}
use Rattle.std.proofs.lemmas.List.Sums.{sum_by-cons}
use Rattle.cds_stamps.specs.declared.stamp.Stamp.{Stamp}
use Rattle.cds_stamps.specs.Keyed.{ties_are_equal}
use Rattle.cds_stamps.specs.Octets.{octets_cmp, octets_exact}
use Rattle.attr_sets.specs.declared.mark.ValueMark.{ValueMark}
use Rattle.attr_sets.specs.declared.cell.AttrCell.{AttrCell}
use Rattle.attr_sets.specs.AttributeCells.{empty_cell}
use Rattle.attr_sets.specs.CellPurges.{is_empty_cell, some_cell}
use Rattle.attr_sets.proofs.CellUndoing.{is_empty_cell-is}
use Rattle.directory.specs.declared.entry.EntryCell.{EntryCell}
use Rattle.directory.specs.declared.deletions.What.{What}
use Rattle.directory.specs.declared.deletions.What.TheVariants.{Death, Clear, Absent}
use Rattle.directory.specs.declared.deletions.Deletion.{Deletion}
use Rattle.directory.specs.Entries.{Entries}
use Rattle.directory.specs.Held.{one_if_some, held_in_cell, held_in_entry, held_in}
use Rattle.directory.specs.Deletions.{is_at, is_absent, has_lost, is_lost, is_of_attr, has_deletion, set_at, change_at, cell_without, entry_without, without}

-- ---- lengths and sums where a value is removed, or changed

module _ {K X : Type 0} {R : K → K → Ordering} (o : IsTotalOrder R) (same : IsAntisymmetric R) where
  -- what is removed is gone
  get-removed : (m : FinMap R X) (k : K) → get (remove m k) k ≡ None
  get-removed m k = get-remove o m k k ∙ ap (λ r. cond (is_eq r) None (get m k)) (tied_itself o k)

  -- what was removed, put back
  insert-remove : (m : FinMap R X) (k : K) (x : X) → get m k ≡ Some x → insert (remove m k) k x ≡ m
  insert-remove m k x is = same_map o same (insert (remove m k) k x) m (λ q.
      get-insert o (remove m k) k x q ∙ ap (cond (eq_by_cmp R q k) (Some x)) (get-remove o m k q) ∙ at q (eq_by_cmp R q k) refl)
    where
      at : (q : K) (b : Bool) → eq_by_cmp R q k ≡ b → cond b (Some x) (cond b None (get m q)) ≡ get m q
      at q true e = sym (ap (get m) (ties_are_equal same q k e) ∙ is)
      at q false e = refl

  -- what is put in, removed
  remove-insert : (m : FinMap R X) (k : K) (y : X) → remove (insert m k y) k ≡ remove m k
  remove-insert m k y = same_map o same (remove (insert m k y) k) (remove m k) (λ q.
      get-remove o (insert m k y) k q ∙ ap (cond (eq_by_cmp R q k) None) (get-insert o m k y q) ∙ at (get m q) (eq_by_cmp R q k) ∙ sym (get-remove o m k q))
    where
      at : (x : Option X) (b : Bool) → cond b None (cond b (Some y) x) ≡ cond b None x
      at x true = refl
      at x false = refl

  -- the length without a value
  pub len-removed : (m : FinMap R X) (k : K) (x : X) → get m k ≡ Some x → len (remove m k) + 1 ≡ len m
  len-removed m k x is =
      sym (len-insert o (remove m k) k x ∙ ap (λ y. cond (is_some y) (len (remove m k)) (len (remove m k) + 1)) (get-removed m k))
      ∙ ap len (insert-remove m k x is)

  module _ (f : X → ℕ) where
    abbrev sum_of : List (K × X) → ℕ
    sum_of = sum_by (λ e. f e.1)

    sum_of-put : (k : K) (x : X) (es : List (K × X)) → find R k es ≡ None → sum_of (put R k x es) ≡ sum_of es + f x
    sum_of-put k x [] none = refl
    sum_of-put k x (e ∷ es) none = at (R k e.0) none (sum_of-put k x es)
      where
        at : (r : Ordering) → cond (is_eq r) (Some e.1) (find R k es) ≡ None → (find R k es ≡ None → sum_of (put R k x es) ≡ sum_of es + f x)
            → sum_of (by_order r ((k, x) ∷ e ∷ es) ((e.0, x) ∷ es) (e ∷ put R k x es)) ≡ sum_of (e ∷ es) + f x
        at Less none rest = let first = sum_by-cons (λ (e : K × X). f e.1) (k, x) (e ∷ es) in omega (arith, first)
        at Equal none rest = cc (none)
        at Greater none rest =
            let first = sum_by-cons (λ (e : K × X). f e.1) e (put R k x es) in
            let old = sum_by-cons (λ (e : K × X). f e.1) e es in
            let more = rest none in
            omega (arith, first, old, more)

    -- the sum without a value
    pub sum-remove : (m : FinMap R X) (k : K) (x : X) → get m k ≡ Some x → sum_of (entries (remove m k)) + f x ≡ sum_of (entries m)
    sum-remove m k x is =
        sym (sum_of-put k x (entries (remove m k)) (sym (get-entries (remove m k) k) ∙ get-removed m k))
        ∙ ap sum_of (sym (entries-insert o (remove m k) k x)) ∙ ap (λ m. sum_of (entries m)) (insert-remove m k x is)

    -- the sum where a value was changed
    pub sum-insert : (m : FinMap R X) (k : K) (x y : X) → get m k ≡ Some x → sum_of (entries (insert m k y)) + f x ≡ sum_of (entries m) + f y
    sum-insert m k x y is =
        let here : get (insert m k y) k ≡ Some y = get-insert o m k y k ∙ ap (λ r. cond (is_eq r) (Some y) (get m k)) (tied_itself o k) in
        let new = sum-remove (insert m k y) k y here in
        let apart = ap (λ m. sum_of (entries m)) (remove-insert m k y) in
        let old = sum-remove m k x is in
        omega (arith, new, apart, old)

-- the sum where a value was changed, or removed
sum-set : {X : Type 0} (f : X → ℕ) (m : FinMap octets_cmp X) (k : List ℕ) (x : X) (y : Option X) → get m k ≡ Some x
    → sum_by (λ (e : List ℕ × X). f e.1) (entries (set_at m k y)) + f x ≡ sum_by (λ (e : List ℕ × X). f e.1) (entries m) + option_map_or f y 0
sum-set f m k x None is = let less = sum-remove nat_list_cmp_total octets_exact f m k x is in omega (arith, less)
sum-set f m k x (Some y) is = sum-insert nat_list_cmp_total octets_exact f m k x y is

-- ---- cells

-- an empty cell holds nothing
held_in_some : (c : AttrCell) → option_map_or held_in_cell (some_cell c) 0 ≡ held_in_cell c
held_in_some c = at (is_empty_cell c) refl
  where
    none : held_in_cell empty_cell ≡ 0
    none = let empty = len-empty octets_cmp ValueMark in omega (arith, empty)

    at : (b : Bool) → is_empty_cell c ≡ b → option_map_or held_in_cell (if b then None else Some c) 0 ≡ held_in_cell c
    at true is = sym (ap held_in_cell (is_empty_cell-is c is) ∙ none)
    at false is = refl

-- without its clear, or a value that is absent, a cell holds one less
cell_clear-held : (a : List ℕ) (c : AttrCell) (s : Stamp) → is_at c.cleared s ≡ true
    → option_map_or held_in_cell (cell_without (Clear a) c) 0 + 1 ≡ held_in_cell c
cell_clear-held a c s had = ap (λ n. n + 1) (held_in_some (record c { cleared = None })) ∙ at c.cleared had
  where
    at : (x : Option Stamp) → is_at x s ≡ true → len c.values + 0 + 1 ≡ len c.values + one_if_some x
    at None had = cc (had)
    at (Some x) had = omega arith

cell_mark-held : (a v : List ℕ) (c : AttrCell) (s : Stamp) → is_absent (get c.values v) s ≡ true
    → option_map_or held_in_cell (cell_without (Absent a v) c) 0 + 1 ≡ held_in_cell c
cell_mark-held a v c s had = ap (λ n. n + 1) (held_in_some (record c { values = remove c.values v })) ∙ at (get c.values v) refl had
  where
    at : (m : Option ValueMark) → get c.values v ≡ m → is_absent m s ≡ true
        → len (remove c.values v) + one_if_some c.cleared + 1 ≡ len c.values + one_if_some c.cleared
    at None is had = cc (had)
    at (Some m) is had = let less = len-removed nat_list_cmp_total octets_exact c.values v m is in omega (arith, less)

-- ---- entries

-- an entry of which an attribute holds one less holds one less
attrs_held : (e : EntryCell) (a : List ℕ) (w : What) (c : AttrCell) → get e.attrs a ≡ Some c
    → option_map_or held_in_cell (cell_without w c) 0 + 1 ≡ held_in_cell c
    → held_in_entry (record e { attrs = change_at e.attrs a (cell_without w) }) + 1 ≡ held_in_entry e
attrs_held e a w c is less =
    let cells = sum-set held_in_cell e.attrs a c (option_and_then (cell_without w) (get e.attrs a)) is in
    let here = ap (λ c. option_map_or held_in_cell (option_and_then (cell_without w) c) 0) is in
    omega (arith, cells, here, less)

entry_clear-held : (e : EntryCell) (a : List ℕ) (s : Stamp) → has_lost e s (Clear a) ≡ true
    → held_in_entry (record e { attrs = change_at e.attrs a (cell_without (Clear a)) }) + 1 ≡ held_in_entry e
entry_clear-held e a s had = at (get e.attrs a) refl had
  where
    at : (c : Option AttrCell) → get e.attrs a ≡ c → is_at (option_and_then (λ c. c.cleared) c) s ≡ true
        → held_in_entry (record e { attrs = change_at e.attrs a (cell_without (Clear a)) }) + 1 ≡ held_in_entry e
    at None is had = cc (had)
    at (Some c) is had = attrs_held e a (Clear a) c is (cell_clear-held a c s had)

entry_mark-held : (e : EntryCell) (a v : List ℕ) (s : Stamp) → has_lost e s (Absent a v) ≡ true
    → held_in_entry (record e { attrs = change_at e.attrs a (cell_without (Absent a v)) }) + 1 ≡ held_in_entry e
entry_mark-held e a v s had = at (get e.attrs a) refl had
  where
    at : (c : Option AttrCell) → get e.attrs a ≡ c → is_absent (option_and_then (λ c. get c.values v) c) s ≡ true
        → held_in_entry (record e { attrs = change_at e.attrs a (cell_without (Absent a v)) }) + 1 ≡ held_in_entry e
    at None is had = cc (had)
    at (Some c) is had = attrs_held e a (Absent a v) c is (cell_mark-held a v c s had)

-- ---- tables

-- a table without an entry
pub held_death : (m : Entries) (k : List ℕ) (e : EntryCell) → get m k ≡ Some e → held_in (remove m k) + held_in_entry e ≡ held_in m
held_death = sum-remove nat_list_cmp_total octets_exact held_in_entry

-- a table of which an entry holds one less holds one less
entry_held : (m : Entries) (k : List ℕ) (w : What) (e f : EntryCell) → get m k ≡ Some e → entry_without w e ≡ Some f
    → held_in_entry f + 1 ≡ held_in_entry e → held_in (change_at m k (entry_without w)) + 1 ≡ held_in m
entry_held m k w e f is made less =
    let entries = sum-set held_in_entry m k e (option_and_then (entry_without w) (get m k)) is in
    let here = ap (λ e. option_map_or held_in_entry (option_and_then (entry_without w) e) 0) is in
    let there = ap (λ e. option_map_or held_in_entry e 0) made in
    omega (arith, entries, here, there, less)

-- a table without a clear
held_clear : (m : Entries) (s : Stamp) (n a : List ℕ) → has_deletion m (record { stamp = s; name = n; what = Clear a }) ≡ true
    → held_in (without m (record { stamp = s; name = n; what = Clear a })) + 1 ≡ held_in m
held_clear m s n a had = at (get m n) refl had
  where
    at : (e : Option EntryCell) → get m n ≡ e → is_lost e s (Clear a) ≡ true → held_in (change_at m n (entry_without (Clear a))) + 1 ≡ held_in m
    at None is had = cc (had)
    at (Some e) is had = entry_held m n (Clear a) e (record e { attrs = change_at e.attrs a (cell_without (Clear a)) }) is refl (entry_clear-held e a s had)

-- a table without the mark of a value that is absent
held_value : (m : Entries) (s : Stamp) (n a v : List ℕ) → has_deletion m (record { stamp = s; name = n; what = Absent a v }) ≡ true
    → held_in (without m (record { stamp = s; name = n; what = Absent a v })) + 1 ≡ held_in m
held_value m s n a v had = at (get m n) refl had
  where
    at : (e : Option EntryCell) → get m n ≡ e → is_lost e s (Absent a v) ≡ true → held_in (change_at m n (entry_without (Absent a v))) + 1 ≡ held_in m
    at None is had = cc (had)
    at (Some e) is had =
        entry_held m n (Absent a v) e (record e { attrs = change_at e.attrs a (cell_without (Absent a v)) }) is refl (entry_mark-held e a v s had)

-- a table without either
pub held_lost : (m : Entries) (s : Stamp) (n : List ℕ) (w : What) → is_of_attr w ≡ true → is_lost (get m n) s w ≡ true
    → held_in (change_at m n (entry_without w)) + 1 ≡ held_in m
held_lost m s n Death of had = cc (of)
held_lost m s n (Clear a) of had = held_clear m s n a had
held_lost m s n (Absent a v) of had = held_value m s n a v had

-- a table without a death is without the entry
pub without_death : (m : Entries) (s : Stamp) (n : List ℕ) → without m (record { stamp = s; name = n; what = Death }) ≡ remove m n
without_death m s n = at (get m n)
  where
    at : (e : Option EntryCell) → set_at m n (option_and_then (entry_without Death) e) ≡ remove m n
    at None = refl
    at (Some e) = refl

-- a table without one of its deletions holds less
pub held_less : (m : Entries) (d : Deletion) → has_deletion m d ≡ true → held_in (without m d) < held_in m
held_less m d had = at d.what had
  where
    died : (e : Option EntryCell) → get m d.name ≡ e → is_lost e d.stamp Death ≡ true
        → held_in (without m (record { stamp = d.stamp; name = d.name; what = Death })) < held_in m
    died None is had = cc (had)
    died (Some e) is had =
        let less = held_death m d.name e is in
        let gone = ap held_in (without_death m d.stamp d.name) in
        omega (arith, less, gone)

    at : (w : What) → is_lost (get m d.name) d.stamp w ≡ true → held_in (without m (record { stamp = d.stamp; name = d.name; what = w })) < held_in m
    at Death had = died (get m d.name) refl had
    at (Clear a) had = let less = held_clear m d.stamp d.name a had in omega (arith, less)
    at (Absent a v) had = let less = held_value m d.stamp d.name a v had in omega (arith, less)

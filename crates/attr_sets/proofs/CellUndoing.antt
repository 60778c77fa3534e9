-- Joins of cells in place.
use Rattle.std.proofs.Common.{◌≡◌, ℕ, Bool, true, false, List, [], ◌∷◌, Option, Some, None, refl, sym, ap, subst, ◌∙◌, arith}
use Rattle.std.specs.Prelude.{◌&&◌, ◌==◌, is_none}
use Rattle.std.proofs.lemmas.Bool.Decides.{nat_tests}
use Rattle.std.specs.FinMap.{FinMap, get, len, from_entries, get-empty, empty, empty_of_len, len-empty}
use Rattle.std.specs.Map.{keys_of}
use Rattle.std.specs.List.Sorted.{IsStrictlySortedBy}
use Rattle.std.specs.Cmp.Lexicographic.{nat_list_cmp_total}
use Rattle.cds_stamps.specs.declared.stamp.Stamp.{Stamp}
use Rattle.cds_stamps.specs.Octets.{octets_cmp, octets_exact}
use Rattle.cds_stamps.specs.Keyed.{ties_are_equal}
use Rattle.cds_stamps.specs.Undos.{RaisesAt}
use Rattle.std.specs.Ordering.{eq_by_cmp}
use Rattle.std.specs.Prelude.{if◌then◌else◌}
use Rattle.cds_stamps.specs.Semilattice.{maybe, join_of}
use Rattle.cds_stamps.specs.Stamps.{later_stamp}
use Rattle.cds_stamps.proofs.TreeViews.{entry_at, join_of-entries, get-view}
use Rattle.attr_sets.specs.declared.mark.ValueMark.{ValueMark}
use Rattle.attr_sets.specs.declared.cell.AttrCell.{AttrCell}
use Rattle.attr_sets.specs.Marks.{later, mark_after_clear, ValueMarks, RaisesKept, JoinsKept, AgreesOnKept}
use Rattle.attr_sets.specs.AttributeCells.{AttrMark, Marked, cell_of, empty_cell, join_cells, IsValidCell}
use Rattle.attr_sets.specs.CellPurges.{is_empty_cell}
use Rattle.attr_sets.specs.CellLawProofs.{same_cell, get-cell_of, get-one, get-join_cells, kept-later, kept-kept, clears, join_cells-cell_of}
use Rattle.attr_sets.specs.CellLawProofs.{cell_of-valid}

-- two cells, where the clear of the first is not the earlier
pub kept_joined : (a b c : AttrCell) → c.cleared ≡ a.cleared → maybe later_stamp a.cleared b.cleared ≡ a.cleared
    → ((q : List ℕ) → get c.values q ≡ maybe later (get a.values q) (mark_after_clear a.cleared (get b.values q))) → IsValidCell a → c ≡ join_cells a b
kept_joined a b c stays last joined valid =
    same_cell c (join_cells a b) (stays ∙ sym last) (λ q.
    joined q ∙ ap (λ x. maybe later x (mark_after_clear a.cleared (get b.values q))) (sym (valid q)) ∙ sym (kept-later a.cleared (get a.values q) (get b.values q))
    ∙ ap (λ x. mark_after_clear x (maybe later (get a.values q) (get b.values q))) (sym last) ∙ sym (get-join_cells a b q))

-- what was kept of the other before is kept of both
pub kept_agrees : (c : Option Stamp) (m n other : ValueMarks) → JoinsKept c m n other → AgreesOnKept c m other n
kept_agrees c m n other joined q =
    let own : Option ValueMark = get m q in
    let new : Option ValueMark = get other q in
    ap (mark_after_clear c) (joined q) ∙ kept-later c own (mark_after_clear c new) ∙ ap (maybe later (mark_after_clear c own)) (kept-kept c c new ∙ ap (λ d. mark_after_clear d new) (clears.idem c))
    ∙ sym (kept-later c own new)

-- the join has what its clear keeps of both
pub joined_agrees : (a b c : AttrCell) → c ≡ join_cells a b → AgreesOnKept c.cleared a.values b.values c.values
joined_agrees a b c is q =
    let e : Option Stamp = (join_cells a b).cleared in
    let both : Option ValueMark = maybe later (get a.values q) (get b.values q) in
    ap (λ (x : AttrCell). mark_after_clear x.cleared (get x.values q)) is ∙ ap (mark_after_clear e) (get-join_cells a b q) ∙ kept-kept e e both ∙ ap (λ d. mark_after_clear d both) (clears.idem e)
    ∙ sym (ap (λ (x : AttrCell). mark_after_clear x.cleared both) is)

-- one more mark of a value, if the clear keeps it, is the join with it, where the clear keeps it
pub raised_agrees : (a b : AttrCell) (v : List ℕ) (m : ValueMark) → b.cleared ≡ a.cleared → RaisesKept a.cleared a.values b.values v m
    → AgreesOnKept b.cleared a.values (cell_of (Marked v m ∷ [])).values b.values
raised_agrees a b v m same raises =
    let one : ValueMarks = (cell_of (Marked v m ∷ [])).values in
    subst (λ c. AgreesOnKept c a.values one b.values) (sym same) (kept_agrees a.cleared a.values b.values one (λ q.
    raises q ∙ ap (λ x. maybe later (get a.values q) (mark_after_clear a.cleared x)) (sym (get-one v m q))))

-- a clear takes away from each mark of a list what it takes from the latest
pub join_of-kept : {T : Type 0} (c : Option Stamp) (g : T → Option ValueMark) (es : List T) → join_of later (λ e. mark_after_clear c (g e)) es ≡ mark_after_clear c (join_of later g es)
join_of-kept c g [] = refl
join_of-kept c g (e ∷ es) = ap (maybe later (mark_after_clear c (g e))) (join_of-kept c g es) ∙ sym (kept-later c (g e) (join_of later g es))

-- what the entries of a map give at a value, as far as the clear keeps it
pub all_kept : (c : Option Stamp) (m : FinMap octets_cmp ValueMark) (es items : List (List ℕ × ValueMark)) → from_entries es ≡ m
    → IsStrictlySortedBy octets_cmp (keys_of es) → {rest : List (List ℕ × ValueMark)} → rest ≡ es → items ≡ rest
    → (q : List ℕ) → join_of later (λ e. mark_after_clear c (entry_at octets_cmp q e)) items ≡ mark_after_clear c (get m q)
all_kept c m es items view sorted at given q =
    ap (join_of later (λ e. mark_after_clear c (entry_at octets_cmp q e))) (given ∙ at)
    ∙ join_of-kept c (entry_at octets_cmp q) es
    ∙ ap (mark_after_clear c) (join_of-entries nat_list_cmp_total later q es sorted ∙ sym (get-view nat_list_cmp_total es q) ∙ ap (λ m. get m q) view)

-- a mark that changes nothing
pub raised_none : (m : ValueMarks) (k : List ℕ) (x : ValueMark) → maybe later (get m k) (Some x) ≡ get m k → RaisesAt later m m k x
raised_none m k x e q = by_case (eq_by_cmp octets_cmp q k) refl
  where
    alone : (y : Option ValueMark) → y ≡ maybe later y None
    alone None = refl
    alone (Some y) = refl

    by_case : (b : Bool) → eq_by_cmp octets_cmp q k ≡ b → get m q ≡ maybe later (get m q) (if b then Some x else None)
    by_case true t = let same : q ≡ k = ties_are_equal octets_exact q k t in ap (get m) same ∙ sym e ∙ ap (λ k. maybe later (get m k) (Some x)) (sym same)
    by_case false t = alone (get m q)

-- marks of both, where those of the second were kept to the later clear before
pub later_joined : (a b c : AttrCell) (values : FinMap octets_cmp ValueMark) → c.cleared ≡ maybe later_stamp a.cleared b.cleared
    → ((q : List ℕ) → get values q ≡ maybe later (get a.values q) (mark_after_clear b.cleared (get b.values q)))
    → ((q : List ℕ) → get c.values q ≡ mark_after_clear c.cleared (get values q)) → c ≡ join_cells a b
later_joined a b c values same joined keeps = same_cell c (join_cells a b) same (λ q.
    let e = maybe later_stamp a.cleared b.cleared in
    let m = get a.values q in
    let n = get b.values q in
    cc (
      keeps q,
      joined q,
      same,
      get-join_cells a b q,
      kept-later e m
          (mark_after_clear b.cleared n),
      kept-later e m n,
      kept-kept e b.cleared n,
      clears.assoc a.cleared b.cleared b.cleared,
      clears.idem b.cleared,
    ))

-- marks of both, each kept to the later clear, put into an empty map
pub both_kept : (a b : AttrCell) (none first both : FinMap octets_cmp ValueMark) (c : Option Stamp) → none ≡ empty → c ≡ maybe later_stamp a.cleared b.cleared
    → ((q : List ℕ) → get first q ≡ maybe later (get none q) (mark_after_clear c (get a.values q)))
    → ((q : List ℕ) → get both q ≡ maybe later (get first q) (mark_after_clear c (get b.values q)))
    → record { cleared = c; values = both } ≡ join_cells a b
both_kept a b none first both c is_empty same from_a from_b = same_cell (record { cleared = c; values = both }) (join_cells a b) same (λ q.
    let m = get a.values q in
    let n = get b.values q in
    from_b q ∙ ap (λ x. maybe later x (mark_after_clear c n)) (from_a q ∙ ap (λ x. maybe later x (mark_after_clear c m)) (ap (λ m. get m q) is_empty ∙ get-empty octets_cmp q))
    ∙ sym (kept-later c m n) ∙ ap (λ c. mark_after_clear c (maybe later m n)) same ∙ sym (get-join_cells a b q))

-- nothing is known of an attribute with no history
pub new_cell : (none : FinMap octets_cmp ValueMark) → none ≡ empty → record { cleared = None; values = none } ≡ cell_of []
new_cell none is_empty =
    same_cell (record { cleared = None; values = none }) (cell_of []) refl (λ q. ap (λ m. get m q) is_empty ∙ get-empty octets_cmp q ∙ sym (get-cell_of [] q))

-- marks joined into a new cell
pub first_marks : (ms : List AttrMark) (a b : AttrCell) → a ≡ cell_of [] → (IsValidCell a → b ≡ join_cells a (cell_of ms)) → b ≡ cell_of ms
first_marks ms a b new joins =
    joins (subst IsValidCell (sym new) (cell_of-valid [])) ∙ ap (λ a. join_cells a (cell_of ms)) new ∙ join_cells-cell_of [] ms

-- a cell with neither a clear nor a mark is the empty one
pub is_empty_cell-is : (a : AttrCell) → is_empty_cell a ≡ true → a ≡ empty_cell
is_empty_cell-is a e =
    let none : (is_none a.cleared ≡ true) × ((len a.values == 0) ≡ true) = both (is_none a.cleared) (len a.values == 0) e in
    same_cell a empty_cell (nothing a.cleared none.0) (λ q. ap (λ m. get m q) (empty_of_len a.values (at_zero (len a.values) none.1)))
  where
    both : (x y : Bool) → (x && y) ≡ true → (x ≡ true) × (y ≡ true)
    both true y e = (refl, e)
    both false y e = cc

    at_zero : (n : ℕ) → (n == 0) ≡ true → n ≡ 0
    at_zero n e = grind (arith, nat_tests)

    nothing : (c : Option Stamp) → is_none c ≡ true → c ≡ None
    nothing None e = refl
    nothing (Some c) e = cc

-- and the empty cell has neither
pub empty_cell-is_empty : (a : AttrCell) → a ≡ empty_cell → is_empty_cell a ≡ true
empty_cell-is_empty a e = ap is_empty_cell e ∙ ap (λ n. n == 0) (len-empty octets_cmp ValueMark)

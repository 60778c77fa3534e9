-- Purged cells: what is later of one cell joined to what is left of another, and cells that are
-- purged twice.
use Rattle.std.proofs.Common.{◌≡◌, ℕ, Bool, true, false, not, List, ◌++◌, Option, Some, None, sym, ap, ◌∙◌, arith}
use Rattle.std.specs.Prelude.{if◌then◌else◌}
use Rattle.std.specs.FinMap.{get}
use Rattle.std.specs.List.{Contains}
use Rattle.std.specs.declared.cmp.Ordering.{Ordering}
use Rattle.std.specs.Ordering.{is_lt, ordering_then, bool_cmp}
use Rattle.std.specs.Cmp.{IsTotalOrder}
use Rattle.std.specs.Cmp.Lexicographic.{nat_list_cmp_total}
use Rattle.cds_stamps.specs.declared.stamp.Stamp.{Stamp}
use Rattle.cds_stamps.specs.Semilattice.{maybe, greater, join_of-append}
use Rattle.cds_stamps.specs.Stamps.{stamp_total, is_earlier, is_up_to, later_stamp, later_stamp_laws}
use Rattle.cds_stamps.specs.Keyed.{get-map_some}
use Rattle.cds_stamps.specs.Octets.{octets_exact, is_octets}
use Rattle.attr_sets.specs.declared.mark.ValueMark.{ValueMark}
use Rattle.attr_sets.specs.declared.cell.AttrCell.{AttrCell}
use Rattle.attr_sets.specs.Marks.{later, later_laws, mark_after_clear}
use Rattle.attr_sets.specs.AttributeCells.{AttrMark, Cleared, Marked, clear_in, mark_in, attr_stamp, greatest_clear, greatest_mark, cell_of, join_cells, IsValidCell}
use Rattle.attr_sets.specs.CellPurges.{mark_left, mark_after, purged_cell, after_cell}
use Rattle.attr_sets.specs.CellLawProofs.{kept-later, kept-kept, get-cell_of, get-join_cells, same_cell, clears}
use Rattle.attr_sets.proofs.Greatest.{same_inside}
use Rattle.attr_sets.proofs.KnownLaws.{known_early}
use Rattle.attr_sets.proofs.MarkPurgeLaws.{left, after, clear_after, after-kept, left-kept, left-later, kept-after, clear_after-later, clear_after-below}
use Rattle.attr_sets.proofs.MarkPurgeLaws.{not_itself, clear_after-twice, left-twice, after-left, after-twice, left-after}

-- what is left of a cell at a value
pub get-purged_cell : (t : Stamp) (a : AttrCell) (v : List ℕ) → get (purged_cell t a).values v ≡ left t (get a.values v)
get-purged_cell t a v = get-map_some nat_list_cmp_total octets_exact (mark_left t) a.values v

-- what of a cell is later than t, at a value
pub get-after_cell : (t : Stamp) (a : AttrCell) (v : List ℕ) → get (after_cell t a).values v ≡ after t (get a.values v)
get-after_cell t a v = get-map_some nat_list_cmp_total octets_exact (mark_after t) a.values v

-- ---- valid cells

left-valid : (t : Stamp) (c : Option Stamp) (m : Option ValueMark) → mark_after_clear c m ≡ m → mark_after_clear (clear_after t c) (left t m) ≡ left t m
left-valid t c m valid =
    let c' = clear_after t c in
    let stays : mark_after_clear c (left t m) ≡ left t m = sym (left-kept t c m) ∙ ap (left t) valid in
    ap (mark_after_clear c') (sym stays) ∙ kept-kept c' c (left t m) ∙ ap (λ d. mark_after_clear d (left t m)) (clear_after-below t c) ∙ stays

-- what is left of a valid cell is valid
pub purged_cell-valid : (t : Stamp) (a : AttrCell) → IsValidCell a → IsValidCell (purged_cell t a)
purged_cell-valid t a valid v =
    ap (mark_after_clear (clear_after t a.cleared)) (get-purged_cell t a v) ∙ left-valid t a.cleared (get a.values v) (valid v) ∙ sym (get-purged_cell t a v)

-- and so is what of it is later
pub after_cell-valid : (t : Stamp) (a : AttrCell) → IsValidCell a → IsValidCell (after_cell t a)
after_cell-valid t a valid v =
    ap (mark_after_clear (clear_after t a.cleared)) (get-after_cell t a v) ∙ sym (after-kept t a.cleared (get a.values v)) ∙ ap (after t) (valid v)
    ∙ sym (get-after_cell t a v)

-- ---- up to a stamp, and then up to one that is not earlier

-- purged up to s and then up to t
pub purged_cell-twice : (s t : Stamp) (a : AttrCell) → is_earlier t s ≡ false → purged_cell t (purged_cell s a) ≡ purged_cell t a
purged_cell-twice s t a e = same_cell (purged_cell t (purged_cell s a)) (purged_cell t a) (clear_after-twice s t a.cleared e) (λ v.
    get-purged_cell t (purged_cell s a) v ∙ ap (left t) (get-purged_cell s a v) ∙ left-twice s t (get a.values v) e ∙ sym (get-purged_cell t a v))

-- what is later than t of a cell that is purged up to s
pub after_cell-purged : (s t : Stamp) (a : AttrCell) → is_earlier t s ≡ false → after_cell t (purged_cell s a) ≡ after_cell t a
after_cell-purged s t a e = same_cell (after_cell t (purged_cell s a)) (after_cell t a) (clear_after-twice s t a.cleared e) (λ v.
    get-after_cell t (purged_cell s a) v ∙ ap (after t) (get-purged_cell s a v) ∙ after-left s t (get a.values v) e ∙ sym (get-after_cell t a v))

-- what is later than t of what is later than s
pub after_cell-twice : (s t : Stamp) (a : AttrCell) → is_earlier t s ≡ false → after_cell t (after_cell s a) ≡ after_cell t a
after_cell-twice s t a e = same_cell (after_cell t (after_cell s a)) (after_cell t a) (clear_after-twice s t a.cleared e) (λ v.
    get-after_cell t (after_cell s a) v ∙ ap (after t) (get-after_cell s a v) ∙ after-twice s t (get a.values v) e ∙ sym (get-after_cell t a v))

-- nothing of what is later is dropped
pub purged_cell-after : (t : Stamp) (a : AttrCell) → purged_cell t (after_cell t a) ≡ after_cell t a
purged_cell-after t a = same_cell (purged_cell t (after_cell t a)) (after_cell t a) (clear_after-twice t t a.cleared (not_itself t)) (λ v.
    get-purged_cell t (after_cell t a) v ∙ ap (left t) (get-after_cell t a v) ∙ left-after t (get a.values v) ∙ sym (get-after_cell t a v))

-- ---- what is later of one cell, joined to another

joined_left : (t : Stamp) (c d : Option Stamp) (m n : Option ValueMark) → mark_after_clear c m ≡ m
    → left t (mark_after_clear (maybe later_stamp c (clear_after t d)) (maybe later m (after t n)))
    ≡ mark_after_clear (maybe later_stamp (clear_after t c) (clear_after t d)) (maybe later (left t m) (after t n))
joined_left t c d m n valid =
    let c' = clear_after t c in
    let d' = clear_after t d in
    let e = maybe later_stamp c d' in
    let e' = maybe later_stamp c' d' in
    let x = left t m in
    let y = after t n in
    let stays : mark_after_clear c x ≡ x = sym (left-kept t c m) ∙ ap (left t) valid in
    let stays_too : mark_after_clear c' x ≡ x = left-valid t c m valid in
    let own : mark_after_clear e x ≡ mark_after_clear e' x =
    cc (clears.comm c d', clears.comm c' d', kept-kept d' c x, kept-kept d' c' x, stays, stays_too) in
    let other : mark_after_clear e y ≡ mark_after_clear e' y = kept-after t e n ∙ ap (λ c. mark_after_clear c y) (clear_after-later t c d) in
    left-kept t e (maybe later m y) ∙ ap (mark_after_clear e) (left-later t m n) ∙ kept-later e x y
    ∙ ap (λ u. maybe later u (mark_after_clear e y)) own ∙ ap (maybe later (mark_after_clear e' x)) other ∙ sym (kept-later e' x y)

-- a cell is purged before or after what is later of another is joined in
pub purged_cell-joined : (t : Stamp) (a b : AttrCell) → IsValidCell a
    → purged_cell t (join_cells a (after_cell t b)) ≡ join_cells (purged_cell t a) (after_cell t b)
purged_cell-joined t a b valid =
    same_cell (purged_cell t (join_cells a (after_cell t b))) (join_cells (purged_cell t a) (after_cell t b)) (clear_after-later t a.cleared b.cleared) (λ v.
    let m = get a.values v in
    let n = get b.values v in
    let e = maybe later_stamp a.cleared (clear_after t b.cleared) in
    let e' = maybe later_stamp (clear_after t a.cleared) (clear_after t b.cleared) in
    get-purged_cell t (join_cells a (after_cell t b)) v ∙ ap (left t) (get-join_cells a (after_cell t b) v)
    ∙ ap (λ y. left t (mark_after_clear e (maybe later m y))) (get-after_cell t b v)
    ∙ joined_left t a.cleared b.cleared m n (valid v)
    ∙ sym (get-join_cells (purged_cell t a) (after_cell t b) v ∙ ap (λ x. mark_after_clear e' (maybe later x (get (after_cell t b).values v))) (get-purged_cell t a v)
    ∙ ap (λ y. mark_after_clear e' (maybe later (left t m) y)) (get-after_cell t b v)))

-- ---- cells of histories

-- what x knows of y up to t: what is up to t in y adds nothing to x
pub record KnowsUpTo (t : Stamp) (x y : List AttrMark) : Type 0 where
  pub clear : maybe later_stamp (greatest_clear x) (greatest_clear y) ≡ maybe later_stamp (greatest_clear x) (clear_after t (greatest_clear y))
  pub mark : (v : List ℕ) → maybe later (greatest_mark x v) (greatest_mark y v) ≡ maybe later (greatest_mark x v) (after t (greatest_mark y v))

merged_marks : (t : Stamp) (c d : Option Stamp) (m n : Option ValueMark)
    → mark_after_clear (maybe later_stamp (clear_after t c) (clear_after t d)) (maybe later (left t (mark_after_clear c m)) (after t (mark_after_clear d n)))
    ≡ left t (mark_after_clear (maybe later_stamp c (clear_after t d)) (maybe later m (after t n)))
merged_marks t c d m n =
    let c' = clear_after t c in
    let d' = clear_after t d in
    let e = maybe later_stamp c d' in
    let e' = maybe later_stamp c' d' in
    let y = after t n in
    let front : mark_after_clear e' (left t (mark_after_clear c m)) ≡ mark_after_clear e (left t m) =
    cc (left-kept t c m, kept-kept e' c (left t m), clears.comm e' c, clears.assoc c c' d', clears.comm c c', clear_after-below t c) in
    let back : mark_after_clear e' (after t (mark_after_clear d n)) ≡ mark_after_clear e y =
    cc (after-kept t d n, kept-kept e' d' y, clears.assoc c' d' d', clears.idem d', kept-after t e n, clear_after-later t c d) in
    kept-later e' (left t (mark_after_clear c m)) (after t (mark_after_clear d n)) ∙ ap (λ u. maybe later u (mark_after_clear e' (after t (mark_after_clear d n)))) front
    ∙ ap (maybe later (mark_after_clear e (left t m))) back ∙ sym (kept-later e (left t m) y) ∙ ap (mark_after_clear e) (sym (left-later t m n))
    ∙ sym (left-kept t e (maybe later m y))

-- what is left of the marks of one history, with what is later of those of another that it knows up
-- to t
pub merged_cells : (t : Stamp) (x y : List AttrMark) → KnowsUpTo t x y
    → join_cells (purged_cell t (cell_of x)) (after_cell t (cell_of y)) ≡ purged_cell t (cell_of (x ++ y))
merged_cells t x y known =
    let a = purged_cell t (cell_of x) in
    let b = after_cell t (cell_of y) in
    let c = greatest_clear x in
    let d = greatest_clear y in
    let clear : maybe later_stamp c (clear_after t d) ≡ greatest_clear (x ++ y) = sym known.clear ∙ sym (join_of-append later_stamp_laws clear_in x y) in
    same_cell (join_cells a b) (purged_cell t (cell_of (x ++ y))) (sym (clear_after-later t c d) ∙ ap (clear_after t) clear) (λ v.
    let m = greatest_mark x v in
    let n = greatest_mark y v in
    let e = maybe later_stamp (clear_after t c) (clear_after t d) in
    let mark : maybe later m (after t n) ≡ greatest_mark (x ++ y) v = sym (known.mark v) ∙ sym (join_of-append later_laws (mark_in v) x y) in
    get-join_cells a b v
    ∙ ap (λ u. mark_after_clear e (maybe later u (get b.values v))) (get-purged_cell t (cell_of x) v ∙ ap (left t) (get-cell_of x v))
    ∙ ap (λ u. mark_after_clear e (maybe later (left t (mark_after_clear c m)) u)) (get-after_cell t (cell_of y) v ∙ ap (after t) (get-cell_of y v))
    ∙ merged_marks t c d m n
    ∙ ap (λ c. left t (mark_after_clear c (maybe later m (after t n)))) clear ∙ ap (λ u. left t (mark_after_clear (greatest_clear (x ++ y)) u)) mark
    ∙ sym (get-purged_cell t (cell_of (x ++ y)) v ∙ ap (left t) (get-cell_of (x ++ y) v)))

-- ---- histories that know others

greater_early : {M K : Type 0} (key : M → K) {R : K → K → Ordering} → IsTotalOrder R → (S : M → M → Ordering) (t : K) (x y : M)
    → not (is_lt (R t (key (greater (λ a b. ordering_then (R (key a) (key b)) (S a b)) x y)))) ≡ true
    → (not (is_lt (R t (key x))) ≡ true) × (not (is_lt (R t (key y))) ≡ true)
greater_early key o S t x y e =
    grind (
      arith,
      e,
      o.trans t (key x) (key y),
      o.trans t (key y) (key x),
      o.congr (key x) (key y) t,
      o.antisymm (key x) (key y),
      o.antisymm (key x) t,
      o.antisymm (key y) t,
      o.congr (key y) (key x) t,
    )

greater_early_key : {K : Type 0} {R : K → K → Ordering} → IsTotalOrder R → (t x y : K) → not (is_lt (R t (greater R x y))) ≡ true
    → (not (is_lt (R t x)) ≡ true) × (not (is_lt (R t y)) ≡ true)
greater_early_key o t x y e =
    grind (arith, e, o.trans t x y, o.trans t y x, o.congr x y t, o.antisymm x y, o.antisymm x t, o.antisymm y t, o.congr y x t)

-- a history that has the marks of another up to t knows it up to t
pub knows_up_to : (t : Stamp) (x y : List AttrMark) → ((m : AttrMark) → Contains y m → is_up_to t (attr_stamp m) ≡ true → Contains x m) → KnowsUpTo t x y
knows_up_to t x y has = record {
  clear = known_early later_stamp_laws clear_in (is_up_to t) (greater_early_key stamp_total t) y x clear_known;
  mark =
      λ v. known_early later_laws (mark_in v) (λ m. is_up_to t m.stamp)
      (greater_early (λ (m : ValueMark). m.stamp) stamp_total (λ a b. bool_cmp b.present a.present) t) y x (mark_known v);
}
  where
    clear_known : (a : AttrMark) → Contains y a → (s : Stamp) → clear_in a ≡ Some s → is_up_to t s ≡ true → Contains x a
    clear_known (Cleared c) among s is e = has (Cleared c) among (ap (is_up_to t) (same_inside c s is) ∙ e)
    clear_known (Marked w m) among s is e = cc (is)

    found : (b : Bool) (m n : ValueMark) → (if b then Some m else None) ≡ Some n → m ≡ n
    found true m n is = same_inside m n is
    found false m n is = cc (is)

    mark_known : (v : List ℕ) (a : AttrMark) → Contains y a → (n : ValueMark) → mark_in v a ≡ Some n → is_up_to t n.stamp ≡ true → Contains x a
    mark_known v (Cleared s) among n is e = cc (is)
    mark_known v (Marked w m) among n is e = has (Marked w m) among (ap (λ (m : ValueMark). is_up_to t m.stamp) (found (is_octets v w) m n is) ∙ e)

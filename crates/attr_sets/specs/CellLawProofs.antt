-- Proofs only: the laws of cells, which the join of cells cites.
use Rattle.std.proofs.Common.{◌≡◌, ℕ, Bool, true, false, cond, not, List, [], ◌∷◌, ◌++◌, ◌||◌, Option, Some, None, refl, sym, ap, ◌∙◌, arith}
use Rattle.std.specs.declared.cmp.Ordering.{Ordering}
use Rattle.std.specs.FinMap.{get, get-empty, same_map, IsAntisymmetric}
use Rattle.std.specs.Cmp.Lexicographic.{nat_list_cmp_total}
use Rattle.std.specs.Ordering.{eq_by_cmp, is_lt, ordering_then, bool_cmp}
use Rattle.std.specs.Cmp.{IsTotalOrder}
use Rattle.std.proofs.lemmas.Map.Entries.{option_filter}
use Rattle.std.specs.Prelude.{if◌then◌else◌}
use Rattle.std.specs.List.{filter_map, list_any}
use Rattle.cds_stamps.specs.declared.stamp.Stamp.{Stamp}
use Rattle.attr_sets.specs.declared.mark.ValueMark.{ValueMark}
use Rattle.attr_sets.specs.declared.cell.AttrCell.{AttrCell}
use Rattle.cds_stamps.specs.Semilattice.{IsSemilattice, greater, maybe, maybe_semilattice, join_of-append}
use Rattle.cds_stamps.specs.Keyed.{get-merge, get-of_all_keys}
use Rattle.cds_stamps.specs.Stamps.{is_earlier, later_stamp, later_stamp_laws, stamp_total, stamp_exact}
use Rattle.cds_stamps.specs.Octets.{octets_cmp, octets_exact}
use Rattle.attr_sets.specs.Marks.{later, later_laws, mark_after_clear, RaisesKept}
use Rattle.attr_sets.specs.AttributeCells.{AttrMark, Cleared, Marked, clear_in, mark_in, value_in, greatest_clear, greatest_mark, cell_of, join_cells, IsValidCell}
use Rattle.attr_sets.specs.AttributeCells.{empty_cell}

module _ {M K : Type 0} (f : M → K) {R : K → K → Ordering} (o : IsTotalOrder R) (same : IsAntisymmetric R) (S : M → M → Ordering) where
  abbrev not_before : (c : K) (m : M) → Option M
  not_before c m = if is_lt (R (f m) c) then None else Some m

  abbrev by_both : M → M → Ordering
  by_both a b = ordering_then (R (f a) (f b)) (S a b)

  before-before : (c d : K) (m : M) → (if is_lt (R (f m) d) then None else not_before c m) ≡ not_before (greater R c d) m
  before-before c d m =
      grind (
        arith,
        o.trans
            (f m) c d,
        o.trans (f m) d c,
        o.antisymm c d,
        o.antisymm (f m) c,
        o.antisymm (f m) d,
        same c d,
        same d c,
        same (f m) c,
        same (f m) d,
      )

  before-later : (c : K) (m n : M) → not_before c (greater by_both m n) ≡ maybe (greater by_both) (not_before c m) (not_before c n)
  before-later c m n =
      grind (
        arith,
        o.trans
            (f m) (f n) c,
        o.trans (f n) (f m) c,
        o.antisymm (f m) (f n),
        o.antisymm (f n) (f m),
        o.congr (f m) (f n) c,
        o.antisymm (f m) c,
        o.antisymm (f n) c,
      )

-- the clear takes away from each of two marks what it takes from the later
pub kept-later : (c : Option Stamp) (m n : Option ValueMark) → mark_after_clear c (maybe later m n) ≡ maybe later (mark_after_clear c m) (mark_after_clear c n)
kept-later None None n = grind arith
kept-later None (Some m) None = refl
kept-later None (Some m) (Some n) = refl
kept-later (Some c) None n = refl
kept-later (Some c) (Some m) None = grind arith
kept-later (Some c) (Some m) (Some n) = before-later (λ (x : ValueMark). x.stamp) stamp_total stamp_exact (λ a b. bool_cmp b.present a.present) c m n

-- the later of two clears takes away what either does
pub kept-kept : (c d : Option Stamp) (m : Option ValueMark) → mark_after_clear c (mark_after_clear d m) ≡ mark_after_clear (maybe later_stamp c d) m
kept-kept None d None = refl
kept-kept None None (Some m) = refl
kept-kept None (Some d) (Some m) = keep_all _
  where
    keep_all : (x : Option ValueMark) → mark_after_clear None x ≡ x
    keep_all None = refl
    keep_all (Some x) = refl
kept-kept (Some c) d None = refl
kept-kept (Some c) None (Some m) = refl
kept-kept (Some c) (Some d) (Some m) = kept-if (is_earlier m.stamp d)
    ∙ before-before (λ (x : ValueMark). x.stamp) stamp_total stamp_exact (λ a b. bool_cmp b.present a.present) c d m
  where
    kept-if : (b : Bool) → mark_after_clear (Some c) (if b then None else Some m) ≡ (if b then None else mark_after_clear (Some c) (Some m))
    kept-if true = refl
    kept-if false = refl

-- cells are the same where their clears and their marks are
pub same_cell : (a b : AttrCell) → a.cleared ≡ b.cleared → ((v : List ℕ) → get a.values v ≡ get b.values v) → a ≡ b
same_cell a b e f =
    let g : a.values ≡ b.values = same_map nat_list_cmp_total octets_exact a.values b.values f in
    λ i. record { cleared = e i; values = g i }

-- the mark that a join has of a value
pub get-join_cells : (a b : AttrCell) (v : List ℕ)
    → get (join_cells a b).values v ≡ mark_after_clear (join_cells a b).cleared (maybe later (get a.values v) (get b.values v))
get-join_cells a b v =
    get-merge nat_list_cmp_total octets_exact (λ m n. mark_after_clear (maybe later_stamp a.cleared b.cleared) (maybe later m n)) refl a.values b.values v

-- the laws of what may be missing
pub clears : IsSemilattice (maybe later_stamp)
clears = maybe_semilattice later_stamp_laws

-- marks that may be missing are a semilattice
pub marks : IsSemilattice (maybe later)
marks = maybe_semilattice later_laws

-- cells join in either order
pub join_cells-comm : (a b : AttrCell) → join_cells a b ≡ join_cells b a
join_cells-comm a b = same_cell _ _ (clears.comm a.cleared b.cleared) (λ v.
    cc (get-join_cells a b v, get-join_cells b a v, clears.comm a.cleared b.cleared, marks.comm (get a.values v) (get b.values v)))

-- a valid cell joined with itself
pub join_cells-idem : (a : AttrCell) → IsValidCell a → join_cells a a ≡ a
join_cells-idem a valid = same_cell _ _ (clears.idem a.cleared) (λ v.
    cc (get-join_cells a a v, clears.idem a.cleared, marks.idem (get a.values v), valid v))

-- a clear that was kept to before counts no more
pub kept-nested : (c d : Option Stamp) (m n : Option ValueMark)
    → mark_after_clear (maybe later_stamp c d) (maybe later (mark_after_clear c m) n) ≡ mark_after_clear (maybe later_stamp c d) (maybe later m n)
kept-nested c d m n =
    let e = maybe later_stamp c d in
    cc (kept-later e (mark_after_clear c m) n, kept-later e m n, kept-kept e c m, clears.comm e c, clears.assoc c c d, clears.idem c)

get-join_three : (a b c : AttrCell) (v : List ℕ)
    → get (join_cells (join_cells a b) c).values v
    ≡ mark_after_clear (join_cells (join_cells a b) c).cleared (maybe later (maybe later (get a.values v) (get b.values v)) (get c.values v))
get-join_three a b c v =
    cc (
      get-join_cells (join_cells a b) c v,
      get-join_cells a b v,
      kept-nested (join_cells a b).cleared c.cleared (maybe later
          (get a.values v) (get b.values v)) (get c.values v),
    )

turned : {X : Type 0} {f : X → X → X} → IsSemilattice f → (x y z : X) → f (f x y) z ≡ f (f y z) x
turned s x y z = s.assoc x y z ∙ s.comm x _

-- three cells join in either way
pub join_cells-assoc : (a b c : AttrCell) → join_cells (join_cells a b) c ≡ join_cells a (join_cells b c)
join_cells-assoc a b c =
    same_cell (join_cells (join_cells a b) c) (join_cells (join_cells b c) a) (turned clears a.cleared b.cleared c.cleared) (λ v.
    cc (
      get-join_three a b c v,
      get-join_three b c a v,
      turned clears a.cleared b.cleared c.cleared,
      turned marks
          (get a.values v) (get b.values v) (get c.values v),
    ))
    ∙ join_cells-comm (join_cells b c) a

-- a join is valid
pub join_cells-valid : (a b : AttrCell) → IsValidCell (join_cells a b)
join_cells-valid a b v =
    let c = maybe later_stamp a.cleared b.cleared in
    let m = maybe later (get a.values v) (get b.values v) in
    cc (get-join_cells a b v, kept-kept c c m, clears.idem c)

-- ---- cells of histories

greatest_mark-beyond : (h : List AttrMark) (v : List ℕ) → list_any (eq_by_cmp octets_cmp v) (filter_map value_in h) ≡ false → greatest_mark h v ≡ None
greatest_mark-beyond [] v e = refl
greatest_mark-beyond (Cleared s ∷ h) v e = greatest_mark-beyond h v e
greatest_mark-beyond (Marked w m ∷ h) v e =
    found_not (eq_by_cmp octets_cmp v w) (list_any (eq_by_cmp octets_cmp v) (filter_map value_in h)) e (greatest_mark-beyond h v)
  where
    found_not : (b r : Bool) → (b || r) ≡ false → (r ≡ false → greatest_mark h v ≡ None) → maybe later (if b then Some m else None) (greatest_mark h v) ≡ None
    found_not true r p ih = cc
    found_not false r p ih = ih p

-- the mark that the cell of a history has of a value
pub get-cell_of : (h : List AttrMark) (v : List ℕ) → get (cell_of h).values v ≡ mark_after_clear (greatest_clear h) (greatest_mark h v)
get-cell_of h =
    get-of_all_keys nat_list_cmp_total octets_exact (filter_map value_in h) (λ v. mark_after_clear (greatest_clear h) (greatest_mark h v)) (λ v e. ap (mark_after_clear
    (greatest_clear h)) (greatest_mark-beyond h v e))

-- the cell of a history is valid
pub cell_of-valid : (h : List AttrMark) → IsValidCell (cell_of h)
cell_of-valid h v = cc (get-cell_of h v, kept-kept (greatest_clear h) (greatest_clear h) (greatest_mark h v), clears.idem (greatest_clear h))

kept-both : (c d : Option Stamp) (m n : Option ValueMark)
    → mark_after_clear (maybe later_stamp c d) (maybe later (mark_after_clear c m) (mark_after_clear d n)) ≡ mark_after_clear (maybe later_stamp c d) (maybe later m n)
kept-both c d m n = cc (kept-nested c d m (mark_after_clear d n), kept-nested d c n m, marks.comm m (mark_after_clear d n), clears.comm c d, marks.comm n m)

-- two histories together
pub join_cells-cell_of : (g h : List AttrMark) → join_cells (cell_of g) (cell_of h) ≡ cell_of (g ++ h)
join_cells-cell_of g h = same_cell (join_cells (cell_of g) (cell_of h)) (cell_of (g ++ h)) (sym (join_of-append later_stamp_laws clear_in g h)) (λ v.
    cc (
      get-join_cells
          (cell_of g)
          (cell_of h) v,
      get-cell_of g v,
      get-cell_of h v,
      get-cell_of
          (g ++ h) v,
      kept-both
          (greatest_clear g)
          (greatest_clear h)
          (greatest_mark g v) (greatest_mark h v),
      join_of-append later_stamp_laws clear_in g h,
      join_of-append later_laws (mark_in v) g h,
    ))

-- ---- what the methods of maps do

-- what dropping the earlier marks leaves is what the clear keeps
pub option_filter-kept : (c : Stamp) (m : Option ValueMark) → option_filter (λ m. not (is_earlier m.stamp c)) m ≡ mark_after_clear (Some c) m
option_filter-kept c None = refl
option_filter-kept c (Some m) = turned_if (is_earlier m.stamp c)
  where
    turned_if : (b : Bool) → cond (not b) (Some m) None ≡ (if b then None else Some m)
    turned_if true = refl
    turned_if false = refl

-- ---- what the methods of cells do

-- the cell of one mark
pub get-one : (v : List ℕ) (m : ValueMark) (q : List ℕ) → get (cell_of (Marked v m ∷ [])).values q ≡ (if eq_by_cmp octets_cmp q v then Some m else None)
get-one v m q = get-cell_of (Marked v m ∷ []) q ∙ alone (eq_by_cmp octets_cmp q v)
  where
    alone : (b : Bool) → mark_after_clear None (maybe later (if b then Some m else None) None) ≡ (if b then Some m else None)
    alone true = refl
    alone false = refl

alone_clear : (c : Option Stamp) → c ≡ maybe later_stamp c None
alone_clear None = refl
alone_clear (Some c) = refl

-- the values of b are those of a with a mark, if the clear keeps it
pub mark_given : (a b : AttrCell) (v : List ℕ) (m : ValueMark) → IsValidCell a → b.cleared ≡ a.cleared
    → ((q : List ℕ) → get b.values q ≡ maybe later (get a.values q) (mark_after_clear a.cleared (if eq_by_cmp octets_cmp q v then Some m else None)))
    → b ≡ join_cells a (cell_of (Marked v m ∷ []))
mark_given a b v m valid same has = same_cell b (join_cells a (cell_of (Marked v m ∷ []))) (same ∙ alone_clear a.cleared) (λ q.
    let x : Option ValueMark = if eq_by_cmp octets_cmp q v then Some m else None in
    cc (get-join_cells a (cell_of (Marked v m ∷ [])) q, get-one v m q, alone_clear a.cleared, kept-later a.cleared (get a.values q) x, valid q, has q))

alone_mark : (x : Option ValueMark) → maybe later x None ≡ x
alone_mark None = refl
alone_mark (Some x) = refl

-- a mark that either clear was kept to before, beside another
kept-beside : (c d : Option Stamp) (m n : Option ValueMark)
    → mark_after_clear (maybe later_stamp c d) (maybe later m (mark_after_clear c n)) ≡ mark_after_clear (maybe later_stamp c d) (maybe later m n)
kept-beside c d m n =
    let e = maybe later_stamp c d in
    ap (mark_after_clear e) (marks.comm m (mark_after_clear c n)) ∙ kept-nested c d n m ∙ ap (mark_after_clear e) (marks.comm n m)

-- a mark, unless the clear of the cell takes it, and then a clear
pub put_joined : (a b : AttrCell) (v : List ℕ) (m : ValueMark) (s : Stamp) → b.cleared ≡ a.cleared → RaisesKept a.cleared a.values b.values v m
    → join_cells b (cell_of (Cleared s ∷ [])) ≡ join_cells a (cell_of (Cleared s ∷ Marked v m ∷ []))
put_joined a b v m s same raised =
    let clear : AttrCell = cell_of (Cleared s ∷ []) in
    let both : AttrCell = cell_of (Cleared s ∷ Marked v m ∷ []) in
    same_cell (join_cells b clear) (join_cells a both) (ap (λ x. maybe later_stamp x (Some s)) same) (λ q.
    let x : Option ValueMark = if eq_by_cmp octets_cmp q v then Some m else None in
    let e : Option Stamp = maybe later_stamp a.cleared (Some s) in
    let own : Option ValueMark = get a.values q in
    get-join_cells b clear q
    ∙ ap (λ c. mark_after_clear (maybe later_stamp c (Some s)) (maybe later (get b.values q) (get clear.values q))) same
    ∙ ap (λ y. mark_after_clear e (maybe later (get b.values q) y)) (get-cell_of (Cleared s ∷ []) q)
    ∙ ap (mark_after_clear e) (alone_mark (get b.values q) ∙ raised q)
    ∙ kept-beside a.cleared (Some s) own x
    ∙ sym (ap (λ c. mark_after_clear c (maybe later own (mark_after_clear
    (Some s) x))) (clears.comm a.cleared (Some s)) ∙ kept-beside (Some s) a.cleared own x ∙ ap (λ c. mark_after_clear c (maybe later own x))
    (clears.comm (Some s) a.cleared))
    ∙ ap (λ y. mark_after_clear e (maybe later own (mark_after_clear (Some s) y))) (sym (alone_mark x))
    ∙ ap (λ y. mark_after_clear e (maybe later own y)) (sym (get-cell_of (Cleared s ∷ Marked v m ∷ []) q))
    ∙ sym (get-join_cells a both q))

-- a clear
pub clear_joined : (a b : AttrCell) (s : Stamp) → b.cleared ≡ maybe later_stamp a.cleared (Some s)
    → ((q : List ℕ) → get b.values q ≡ mark_after_clear b.cleared (get a.values q)) → b ≡ join_cells a (cell_of (Cleared s ∷ []))
clear_joined a b s same keeps = same_cell b (join_cells a (cell_of (Cleared s ∷ []))) same (λ q.
    cc (keeps q, same, get-join_cells a (cell_of (Cleared s ∷ [])) q, get-cell_of (Cleared s ∷ []) q, alone_value (get a.values q)))
  where
    alone_value : (x : Option ValueMark) → x ≡ maybe later x None
    alone_value None = refl
    alone_value (Some x) = refl

nothing_left : (x y : Option Stamp) → maybe later_stamp x y ≡ None → x ≡ None
nothing_left None y e = refl
nothing_left (Some x) None e = cc
nothing_left (Some x) (Some y) e = cc

no_mark_left : (x y : Option ValueMark) → mark_after_clear None (maybe later x y) ≡ None → x ≡ None
no_mark_left None y e = refl
no_mark_left (Some x) None e = cc
no_mark_left (Some x) (Some y) e = cc

-- what is joined with a cell that has something has something
pub join_held : (a b : AttrCell) → join_cells a b ≡ empty_cell → a ≡ empty_cell
join_held a b e =
    let none : (join_cells a b).cleared ≡ None = ap (λ (c : AttrCell). c.cleared) e in
    same_cell a empty_cell (nothing_left a.cleared b.cleared none) (λ v.
    no_mark_left (get a.values v) (get b.values v)
    (ap (λ c. mark_after_clear c (maybe later (get a.values v) (get b.values v))) (sym none) ∙ sym (get-join_cells a b v)
    ∙ ap (λ (c : AttrCell). get c.values v) e ∙ get-empty octets_cmp v)
    ∙ sym (get-empty octets_cmp v))

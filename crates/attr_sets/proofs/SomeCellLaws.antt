-- Cells that have a clear or a value, as entries hold them: the laws of purged cells, where a cell
-- may be missing.
use Rattle.std.proofs.Common.{◌≡◌, Bool, true, false, List, [], ◌∷◌, ◌++◌, Option, Some, None, refl, sym, ap, subst, ◌∙◌, ◌⊎◌, inl, inr, ⊎_elim}
use Rattle.std.proofs.Common.{is_eq, arith}
use Rattle.std.specs.Prelude.{◌≢◌, not, IfSome, if◌then◌else◌}
use Rattle.std.specs.FinMap.{FinMap, IsAntisymmetric, get, empty, get-empty}
use Rattle.std.specs.Option.{option_and_then}
use Rattle.std.specs.declared.cmp.Ordering.{Ordering}
use Rattle.std.specs.Cmp.{IsTotalOrder, tied_itself}
use Rattle.std.specs.Cmp.Lexicographic.{nat_list_cmp_total}
use Rattle.cds_stamps.specs.declared.stamp.Stamp.{Stamp}
use Rattle.cds_stamps.specs.Joins.{EachValue}
use Rattle.cds_stamps.specs.Keyed.{map_some, get-map_some}
use Rattle.cds_stamps.specs.Semilattice.{maybe}
use Rattle.cds_stamps.specs.Stamps.{stamp_total, is_earlier, is_up_to, later_stamp}
use Rattle.cds_stamps.specs.Octets.{octets_cmp, octets_exact, is_octets}
use Rattle.attr_sets.specs.declared.mark.ValueMark.{ValueMark}
use Rattle.attr_sets.specs.declared.cell.AttrCell.{AttrCell}
use Rattle.attr_sets.specs.Marks.{later, mark_after_clear}
use Rattle.attr_sets.specs.AttributeCells.{AttrMark, Cleared, Marked, greatest_clear, greatest_mark, cell_of, empty_cell, join_cells, IsValidCell}
use Rattle.attr_sets.specs.CellPurges.{is_empty_cell, some_cell, clear_left, mark_after, cell_left, cell_after, purged_cell, after_cell}
use Rattle.attr_sets.specs.CellPurges.{is_above, IsAboveCell}
use Rattle.attr_sets.specs.CellLawProofs.{same_cell, get-cell_of, get-join_cells, join_cells-comm, join_held, cell_of-valid}
use Rattle.attr_sets.proofs.CellUndoing.{is_empty_cell-is, empty_cell-is_empty, new_cell}
use Rattle.attr_sets.proofs.MarkPurgeLaws.{left, after, not_itself}
use Rattle.attr_sets.proofs.CellPurgeLaws.{KnowsUpTo, get-purged_cell, get-after_cell, purged_cell-valid, after_cell-valid, purged_cell-joined, merged_cells}
use Rattle.attr_sets.proofs.CellPurgeLaws.{purged_cell-twice, after_cell-purged, after_cell-twice, purged_cell-after}

-- ---- cells that have something

-- the empty cell has nothing
pub none_of-empty : (a : AttrCell) → a ≡ empty_cell → some_cell a ≡ None
none_of-empty a e = ap (λ b. if b then None else Some a) (empty_cell-is_empty a e)

-- and any other has something
pub some_of-other : (a : AttrCell) → a ≢ empty_cell → some_cell a ≡ Some a
some_of-other a other = by_case (is_empty_cell a) refl
  where
    by_case : (b : Bool) → is_empty_cell a ≡ b → (if b then None else Some a) ≡ Some a
    by_case true e = absurd (other (is_empty_cell-is a e))
    by_case false e = refl

-- a cell is empty or not
pub empty_or_not : (a : AttrCell) → (a ≡ empty_cell) ⊎ (a ≢ empty_cell)
empty_or_not a = by_case (is_empty_cell a) refl
  where
    no : (b : Bool) → b ≡ true → b ≡ false → ⊥
    no true p q = cc (q)
    no false p q = cc (p)

    by_case : (b : Bool) → is_empty_cell a ≡ b → (a ≡ empty_cell) ⊎ (a ≢ empty_cell)
    by_case true e = inl (is_empty_cell-is a e)
    by_case false e = inr (λ is. no (is_empty_cell a) (empty_cell-is_empty a is) e)

-- a valid cell is held, if it has something
pub some_cell-held : (a : AttrCell) → IsValidCell a → IfSome (some_cell a) (λ c. IsValidCell c × (c ≢ empty_cell))
some_cell-held a valid =
    ⊎_elim (λ is. subst (λ c. IfSome c (λ c. IsValidCell c × (c ≢ empty_cell))) (sym (none_of-empty a is)) tt)
    (λ other. subst (λ c. IfSome c (λ c. IsValidCell c × (c ≢ empty_cell))) (sym (some_of-other a other)) (valid, other)) (empty_or_not a)

-- ---- cells of histories

some_stays : {X : Type 0} (f : X → X → X) (x : X) (y : Option X) → maybe f (Some x) y ≡ None → ⊥
some_stays f x None e = cc (e)
some_stays f x (Some y) e = cc (e)

-- a cell of some marks has a clear or a value
pub has_some : (x : AttrMark) (xs : List AttrMark) → cell_of (x ∷ xs) ≢ empty_cell
has_some (Cleared s) xs e = some_stays later_stamp s (greatest_clear xs) (ap (λ (c : AttrCell). c.cleared) e)
has_some (Marked v m) xs e =
    let clear : greatest_clear xs ≡ None = ap (λ (c : AttrCell). c.cleared) e in
    let gone : mark_after_clear (greatest_clear xs) (greatest_mark (Marked v m ∷ xs) v) ≡ None = sym (get-cell_of (Marked v m ∷ xs) v)
    ∙ ap (λ (c : AttrCell). get c.values v) e ∙ get-empty octets_cmp v in
    at (is_octets v v) (ap is_eq (tied_itself nat_list_cmp_total v)) (ap (λ c. mark_after_clear c (greatest_mark (Marked v m ∷ xs) v)) (sym clear) ∙ gone)
  where
    kept_all : (y : Option ValueMark) → mark_after_clear None y ≡ y
    kept_all None = refl
    kept_all (Some y) = refl

    at : (t : Bool) → t ≡ true → mark_after_clear None (maybe later (if t then Some m else None) (greatest_mark xs v)) ≡ None → ⊥
    at t is gone =
        some_stays later m (greatest_mark xs v) (ap (λ t. maybe later
        (if t then Some m else None) (greatest_mark xs v)) (sym is) ∙ sym (kept_all (maybe later
        (if t then Some m else None) (greatest_mark xs v))) ∙ gone)

-- of no mark there is no cell
pub some_cell-of_none : some_cell (cell_of []) ≡ None
some_cell-of_none = none_of-empty (cell_of []) (sym (new_cell empty refl))

-- of some marks there is one
pub some_cell-of_some : (x : AttrMark) (xs : List AttrMark) → some_cell (cell_of (x ∷ xs)) ≡ Some (cell_of (x ∷ xs))
some_cell-of_some x xs = some_of-other (cell_of (x ∷ xs)) (has_some x xs)

-- ---- joins

-- the empty cell adds nothing
pub empty-joined : (b : AttrCell) → IsValidCell b → join_cells empty_cell b ≡ b
empty-joined b valid = same_cell (join_cells empty_cell b) b refl (λ v.
    get-join_cells empty_cell b v ∙ ap (λ x. mark_after_clear b.cleared (maybe later x (get b.values v))) (get-empty octets_cmp v) ∙ valid v)

alone : (x : Option AttrCell) → maybe join_cells x None ≡ x
alone None = refl
alone (Some x) = refl

-- valid cells are joined before or after it is asked whether they have something
pub some_cell-joined : (a b : AttrCell) → IsValidCell a → IsValidCell b → maybe join_cells (some_cell a) (some_cell b) ≡ some_cell (join_cells a b)
some_cell-joined a b valid valid_too =
    ⊎_elim (λ is.
    ap (λ x. maybe join_cells x (some_cell b)) (none_of-empty a is)
    ∙ ap some_cell (sym (ap (λ a. join_cells a b) is ∙ empty-joined b valid_too)))
    (λ other. ⊎_elim (λ is.
    ap (maybe join_cells (some_cell a)) (none_of-empty b is) ∙ alone (some_cell a)
    ∙ ap some_cell (sym (ap (join_cells a) is ∙ join_cells-comm a empty_cell ∙ empty-joined a valid)))
    (λ other_too.
    ap (λ x. maybe join_cells x (some_cell b)) (some_of-other a other) ∙ ap (maybe join_cells (Some a)) (some_of-other b other_too)
    ∙ sym (some_of-other (join_cells a b) (λ is. other (join_held a b is))))
    (empty_or_not b)) (empty_or_not a)

-- ---- what is left, and what is later

-- of a cell that has nothing nothing is left
empty-purged : (t : Stamp) → purged_cell t empty_cell ≡ empty_cell
empty-purged t = same_cell (purged_cell t empty_cell) empty_cell refl (λ v.
    get-purged_cell t empty_cell v ∙ ap (left t) (get-empty octets_cmp v) ∙ sym (get-empty octets_cmp v))

empty-after : (t : Stamp) → after_cell t empty_cell ≡ empty_cell
empty-after t = same_cell (after_cell t empty_cell) empty_cell refl (λ v.
    get-after_cell t empty_cell v ∙ ap (after t) (get-empty octets_cmp v) ∙ sym (get-empty octets_cmp v))

-- whether it has something may be asked before as well
pub cell_left-some : (t : Stamp) (a : AttrCell) → option_and_then (cell_left t) (some_cell a) ≡ cell_left t a
cell_left-some t a =
    ⊎_elim (λ is. ap (option_and_then (cell_left t)) (none_of-empty a is) ∙ sym (none_of-empty (purged_cell t a) (ap (purged_cell t) is ∙ empty-purged t)))
    (λ other. ap (option_and_then (cell_left t)) (some_of-other a other)) (empty_or_not a)

-- and so of what is later
pub cell_after-some : (t : Stamp) (a : AttrCell) → option_and_then (cell_after t) (some_cell a) ≡ cell_after t a
cell_after-some t a =
    ⊎_elim (λ is. ap (option_and_then (cell_after t)) (none_of-empty a is) ∙ sym (none_of-empty (after_cell t a) (ap (after_cell t) is ∙ empty-after t)))
    (λ other. ap (option_and_then (cell_after t)) (some_of-other a other)) (empty_or_not a)

-- what is left up to s and then up to t
pub cell_left-twice : (s t : Stamp) (a : AttrCell) → is_earlier t s ≡ false → option_and_then (cell_left t) (cell_left s a) ≡ cell_left t a
cell_left-twice s t a e = cell_left-some t (purged_cell s a) ∙ ap some_cell (purged_cell-twice s t a e)

-- what is later than t of what is left up to s
pub cell_after-left : (s t : Stamp) (a : AttrCell) → is_earlier t s ≡ false → option_and_then (cell_after t) (cell_left s a) ≡ cell_after t a
cell_after-left s t a e = cell_after-some t (purged_cell s a) ∙ ap some_cell (after_cell-purged s t a e)

-- what is later than t of what is later than s
pub cell_after-twice : (s t : Stamp) (a : AttrCell) → is_earlier t s ≡ false → option_and_then (cell_after t) (cell_after s a) ≡ cell_after t a
cell_after-twice s t a e = cell_after-some t (after_cell s a) ∙ ap some_cell (after_cell-twice s t a e)

-- nothing of what is later is dropped
pub cell_left-after : (t : Stamp) (a : AttrCell) → option_and_then (cell_left t) (cell_after t a) ≡ cell_after t a
cell_left-after t a = cell_left-some t (after_cell t a) ∙ ap some_cell (purged_cell-after t a)

-- what is left of a valid cell is held, if anything is
pub cell_left-held : (t : Stamp) (a : AttrCell) → IsValidCell a → IfSome (cell_left t a) (λ c. IsValidCell c × (c ≢ empty_cell))
cell_left-held t a valid = some_cell-held (purged_cell t a) (purged_cell-valid t a valid)

-- and so is what of it is later
pub cell_after-held : (t : Stamp) (a : AttrCell) → IsValidCell a → IfSome (cell_after t a) (λ c. IsValidCell c × (c ≢ empty_cell))
cell_after-held t a valid = some_cell-held (after_cell t a) (after_cell-valid t a valid)

-- ---- above a stamp

module _ {K X Y : Type 0} {R : K → K → Ordering} (o : IsTotalOrder R) (same : IsAntisymmetric R) where
  -- what holds of all that f leaves holds of each value of the map
  pub each_left : (V : Y → Type 0) (f : X → Option Y) → ((x : X) → IfSome (f x) V) → (m : FinMap R X) → EachValue V (map_some f m)
  each_left V f holds m k = subst (λ x. IfSome x V) (sym (get-map_some o same f m k)) (at (get m k))
    where
      at : (x : Option X) → IfSome (option_and_then f x) V
      at None = tt
      at (Some x) = holds x

-- what holds of everything holds of what there is
pub if_any : {X : Type 0} (V : X → Type 0) → ((x : X) → V x) → (x : Option X) → IfSome x V
if_any V holds None = tt
if_any V holds (Some x) = holds x

later_or_not : (b : Bool) → not b ≡ false → b ≡ true
later_or_not true e = refl
later_or_not false e = cc (e)

-- a clear that is later than t is above t
pub clear_after-above : (t : Stamp) (s : Option Stamp) → IfSome (option_and_then (clear_left t) s) (λ s. is_above (Some t) s ≡ true)
clear_after-above t None = tt
clear_after-above t (Some s) = at (is_up_to t s) refl
  where
    at : (b : Bool) → is_up_to t s ≡ b → IfSome (if b then None else Some s) (λ s. is_above (Some t) s ≡ true)
    at true e = tt
    at false e = later_or_not (is_earlier t s) e

mark_after-above : (t : Stamp) (m : ValueMark) → IfSome (mark_after t m) (λ m. is_above (Some t) m.stamp ≡ true)
mark_after-above t m = at (is_up_to t m.stamp) refl
  where
    at : (b : Bool) → is_up_to t m.stamp ≡ b → IfSome (if b then None else Some m) (λ (m : ValueMark). is_above (Some t) m.stamp ≡ true)
    at true e = tt
    at false e = later_or_not (is_earlier t m.stamp) e

-- what of a cell is later than t is above t
pub cell_after-above : (t : Stamp) (a : AttrCell) → IfSome (cell_after t a) (IsAboveCell (Some t))
cell_after-above t a = at (is_empty_cell (after_cell t a))
  where
    above : IsAboveCell (Some t) (after_cell t a)
    above = record {
      cleared = clear_after-above t a.cleared;
      values = each_left nat_list_cmp_total octets_exact (λ m. is_above (Some t) m.stamp ≡ true) (mark_after t) (mark_after-above t) a.values;
    }

    at : (b : Bool) → IfSome (if b then None else Some (after_cell t a)) (IsAboveCell (Some t))
    at true = tt
    at false = above

-- and every cell is above no stamp
pub any_cell-above : (a : AttrCell) → IsAboveCell None a
any_cell-above a = record {
  cleared = if_any (λ s. is_above None s ≡ true) (λ s. refl) a.cleared;
  values = λ v. if_any (λ (m : ValueMark). is_above None m.stamp ≡ true) (λ m. refl) (get a.values v);
}

-- ---- what is later of one cell, joined to another

-- a cell is purged before or after what is later of another is joined in
pub cell_left-joined : (t : Stamp) (x y : Option AttrCell) → IfSome x IsValidCell → IfSome y IsValidCell
    → option_and_then (cell_left t) (maybe join_cells x (option_and_then (cell_after t) y))
    ≡ maybe join_cells (option_and_then (cell_left t) x) (option_and_then (cell_after t) y)
cell_left-joined t None None valid valid_too = refl
cell_left-joined t None (Some b) valid valid_too = cell_left-after t b
cell_left-joined t (Some a) None valid valid_too = sym (alone (cell_left t a))
cell_left-joined t (Some a) (Some b) valid valid_too =
    ⊎_elim (λ is.
    ap (λ y. option_and_then (cell_left t) (maybe join_cells (Some a) y)) (none_of-empty (after_cell t b) is)
    ∙ sym (ap (maybe join_cells (cell_left t a)) (none_of-empty (after_cell t b) is) ∙ alone (cell_left t a)))
    (λ other.
    ap (λ y. option_and_then (cell_left t) (maybe join_cells (Some a) y)) (some_of-other (after_cell t b) other)
    ∙ ap some_cell (purged_cell-joined t a b valid)
    ∙ sym (some_cell-joined (purged_cell t a) (after_cell t b) (purged_cell-valid t a valid) (after_cell-valid t b valid_too)))
    (empty_or_not (after_cell t b))

-- what is left up to s, where there is an s
abbrev pub left_by : Option Stamp → Option AttrCell → Option AttrCell
left_by None c = c
left_by (Some s) c = option_and_then (cell_left s) c

-- s is not later than t
pub not_later : (s t : Stamp) → maybe later_stamp (Some s) (Some t) ≡ Some t → is_earlier t s ≡ false
not_later s t e = by_case (is_earlier s t) refl e
  where
    by_case : (b : Bool) → is_earlier s t ≡ b → Some (if b then t else s) ≡ Some t → is_earlier t s ≡ false
    by_case true less is = grind (arith, less, stamp_total.antisymm s t, stamp_total.antisymm t s)
    by_case false less is = let same : s ≡ t = cc (is) in subst (λ s. is_earlier t s ≡ false) (sym same) (not_itself t)

-- what is later than t of what is left up to an s that is not later
pub cell_after-left_by : (s : Option Stamp) (t : Stamp) (a : AttrCell) → maybe later_stamp s (Some t) ≡ Some t
    → option_and_then (cell_after t) (left_by s (some_cell a)) ≡ cell_after t a
cell_after-left_by None t a order = cell_after-some t a
cell_after-left_by (Some s) t a order = ap (option_and_then (cell_after t)) (cell_left-some s a) ∙ cell_after-left s t a (not_later s t order)

-- what is left of the marks of one history, with what is later of those of another that it knows up
-- to t
pub merged_some : (s : Option Stamp) (t : Stamp) (x y : List AttrMark) → maybe later_stamp s (Some t) ≡ Some t → KnowsUpTo t x y
    → maybe join_cells (option_and_then (cell_left t) (some_cell (cell_of x))) (option_and_then (cell_after t) (left_by s (some_cell (cell_of y))))
    ≡ option_and_then (cell_left t) (some_cell (cell_of (x ++ y)))
merged_some s t x y order known =
    let own : option_and_then (cell_left t) (some_cell (cell_of x)) ≡ cell_left t (cell_of x) = cell_left-some t (cell_of x) in
    ap (λ c. maybe join_cells c (option_and_then (cell_after t) (left_by s (some_cell (cell_of y))))) own
    ∙ ap (maybe join_cells (cell_left t (cell_of x))) (cell_after-left_by s t (cell_of y) order)
    ∙ some_cell-joined (purged_cell t (cell_of x)) (after_cell t (cell_of y)) (purged_cell-valid t (cell_of x) (cell_of-valid x))
    (after_cell-valid t (cell_of y) (cell_of-valid y))
    ∙ ap some_cell (merged_cells t x y known)
    ∙ sym (cell_left-some t (cell_of (x ++ y)))

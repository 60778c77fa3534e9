-- A value that is present in one purged attribute is answered by another of which the same marks
-- are known up to a stamp.
use Rattle.std.proofs.Common.{◌≡◌, ◌≢◌, ℕ, Bool, true, false, not, List, Option, Some, None, refl, sym, ap, ◌∙◌, arith}
use Rattle.std.specs.Prelude.{◌&&◌, ◌||◌, if◌then◌else◌}
use Rattle.std.specs.FinMap.{get, get-empty}
use Rattle.std.specs.List.{Contains}
use Rattle.std.specs.Option.{option_and_then, option_map_or}
use Rattle.std.specs.declared.cmp.Ordering.{Ordering}
use Rattle.std.specs.declared.cmp.Ordering.TheVariants.{Equal}
use Rattle.std.specs.Ordering.{is_lt, eq_by_cmp, ordering_then, bool_cmp}
use Rattle.std.specs.Cmp.{IsTotalOrder, tied_itself}
use Rattle.cds_stamps.specs.declared.stamp.Stamp.{Stamp}
use Rattle.cds_stamps.specs.Keyed.{ties_are_equal}
use Rattle.cds_stamps.specs.Octets.{octets_cmp, is_octets}
use Rattle.cds_stamps.specs.Semilattice.{maybe}
use Rattle.cds_stamps.specs.Stamps.{stamp_cmp, stamp_total, stamp_exact, is_earlier, is_up_to, is_stamp, later_stamp, later_stamp_laws}
use Rattle.attr_sets.specs.declared.mark.ValueMark.{ValueMark}
use Rattle.attr_sets.specs.declared.cell.AttrCell.{AttrCell}
use Rattle.attr_sets.specs.Marks.{mark_cmp, mark_total, mark_exact, mark_after_clear, later, later_laws, present_at}
use Rattle.attr_sets.specs.AttributeCells.{AttrMark, Cleared, Marked, attr_stamp, clear_in, mark_in, greatest_clear, greatest_mark, cell_of, empty_cell}
use Rattle.attr_sets.specs.CellPurges.{clear_left, purged_cell}
use Rattle.attr_sets.specs.CellLawProofs.{get-cell_of}
use Rattle.attr_sets.proofs.CellPurgeLaws.{get-purged_cell}
use Rattle.attr_sets.proofs.Greatest.{HasMember, join_of-among, join_of-greatest, join_of-member, same_inside}
use Rattle.attr_sets.proofs.MarkPurgeLaws.{left}
use Rattle.image_audit.specs.Facts.{answers_mark, answers_cell}

-- ---- any order

module _ {K : Type 0} {R : K → K → Ordering} (o : IsTotalOrder R) where
  -- of two, the first is not later than one that is not later than the second
  pub not_later-through : (s z c : K) → is_lt (R s z) ≡ true → is_lt (R c z) ≡ false → is_lt (R s c) ≡ true
  not_later-through s z c p q = grind (arith, p, q, o.trans s z c, o.antisymm c z, o.antisymm s z, o.congr z c s, o.congr s z c)

  -- of two that are not one, where the first is not earlier, the second is
  pub must_be_later : (b c : K) → is_lt (R b c) ≡ false → eq_by_cmp R b c ≡ false → is_lt (R c b) ≡ true
  must_be_later b c p q = grind (arith, p, q, o.antisymm b c, o.antisymm c b)

  -- and a later one is later than what is not later than the first
  pub later-than : (z s m : K) → is_lt (R s z) ≡ false → is_lt (R s m) ≡ true → is_lt (R m z) ≡ false
  later-than z s m p q = grind (arith, p, q, o.trans s m z, o.antisymm s z, o.antisymm m z, o.antisymm s m)

-- of a mark and a present one, where neither is below the other, the stamps are one
module _ {K : Type 0} {R : K → K → Ordering} (o : IsTotalOrder R) where
  pub same_key : (m s : K) (x : Ordering) → is_lt (ordering_then (R m s) x) ≡ false → is_lt (R s m) ≡ false → eq_by_cmp R m s ≡ true
  same_key m s x p q = grind (arith, p, q, o.antisymm m s, o.antisymm s m)

-- ---- what is kept

kept_of : (c : Option Stamp) (x : Option ValueMark) (m : ValueMark) → mark_after_clear c x ≡ Some m → x ≡ Some m
kept_of c None m e = absurd (cc (e))
kept_of None (Some n) m e = e
kept_of (Some c) (Some n) m e = by_case (is_earlier n.stamp c) e
  where
    by_case : (b : Bool) → (if b then None else Some n) ≡ Some m → Some n ≡ Some m
    by_case true is = absurd (cc (is))
    by_case false is = is

-- what is kept is not earlier than the clear
kept_not_earlier : (c : Stamp) (m : ValueMark) → mark_after_clear (Some c) (Some m) ≡ Some m → is_earlier m.stamp c ≡ false
kept_not_earlier c m e = by_case (is_earlier m.stamp c) e
  where
    by_case : (b : Bool) → (if b then None else Some m) ≡ Some m → b ≡ false
    by_case true is = absurd (cc (is))
    by_case false is = refl

-- what is left of a mark is it
left_of : (t : Stamp) (x : Option ValueMark) (m : ValueMark) → left t x ≡ Some m → x ≡ Some m
left_of t None m e = absurd (cc (e))
left_of t (Some n) m e = by_case (n.present || not (is_up_to t n.stamp)) e
  where
    by_case : (b : Bool) → (if b then Some n else None) ≡ Some m → Some n ≡ Some m
    by_case true is = is
    by_case false is = absurd (cc (is))

-- ---- members

-- a member that has a clear or a mark is of its stamp
clear_stamp : (e : AttrMark) (s : Stamp) → clear_in e ≡ Some s → attr_stamp e ≡ s
clear_stamp (Cleared c) s is = same_inside c s is
clear_stamp (Marked v m) s is = absurd (cc (is))

pub mark_stamp : (v : List ℕ) (e : AttrMark) (m : ValueMark) → mark_in v e ≡ Some m → attr_stamp e ≡ m.stamp
mark_stamp v (Cleared s) m is = absurd (cc (is))
mark_stamp v (Marked w n) m is = by_case (is_octets v w) is
  where
    by_case : (b : Bool) → (if b then Some n else None) ≡ Some m → n.stamp ≡ m.stamp
    by_case true has = ap (λ (m : ValueMark). m.stamp) (same_inside n m has)
    by_case false has = absurd (cc (has))

-- a cell that has a clear or a mark is not empty
pub not_empty-clear : (c : AttrCell) (s : Stamp) → c.cleared ≡ Some s → c ≢ empty_cell
not_empty-clear c s is e = let none : c.cleared ≡ None = ap (λ (c : AttrCell). c.cleared) e in cc (is, none)

pub not_empty-mark : (c : AttrCell) (v : List ℕ) (m : ValueMark) → get c.values v ≡ Some m → c ≢ empty_cell
not_empty-mark c v m is e =
    let none : get c.values v ≡ None = ap (λ (c : AttrCell). get c.values v) e ∙ get-empty octets_cmp v in
    cc (is, none)

-- ---- one attribute in two histories that have the same marks up to t

-- a value is present at s in a history of which deletions up to a are dropped
module _ (a : Stamp) (x : List AttrMark) (v : List ℕ) (s : Stamp) (present : get (purged_cell a (cell_of x)).values v ≡ Some (present_at s)) where
  kept_present : mark_after_clear (greatest_clear x) (greatest_mark x v) ≡ Some (present_at s)
  kept_present =
      sym (get-cell_of x v) ∙ left_of a (get (cell_of x).values v) (present_at s) (sym (get-purged_cell a (cell_of x) v) ∙ present)

  -- it is the greatest of its value
  greatest : greatest_mark x v ≡ Some (present_at s)
  greatest = kept_of (greatest_clear x) (greatest_mark x v) (present_at s) kept_present

  -- the member that the history has of it
  pub own_member : HasMember (mark_in v) x (present_at s)
  own_member = join_of-among mark_cmp (mark_in v) x (present_at s) greatest

-- the same, up to t, and a second history that has the same marks up to t
module _ (t a : Stamp) (x y : List AttrMark) (v : List ℕ) (s : Stamp) (early : is_up_to t s ≡ true)
    (there : (m : AttrMark) → Contains x m → is_up_to t (attr_stamp m) ≡ true → Contains y m)
    (back : (m : AttrMark) → Contains y m → is_up_to t (attr_stamp m) ≡ true → Contains x m)
    (present : get (purged_cell a (cell_of x)).values v ≡ Some (present_at s)) where
  abbrev p : ValueMark
  p = present_at s

  abbrev is_kept : mark_after_clear (greatest_clear x) (greatest_mark x v) ≡ Some p
  is_kept = kept_present a x v s present

  abbrev is_greatest : greatest_mark x v ≡ Some p
  is_greatest = greatest a x v s present

  abbrev own : HasMember (mark_in v) x p
  own = own_member a x v s present

  -- no clear of the first is later
  uncleared : (e : AttrMark) (z : Stamp) → Contains x e → clear_in e ≡ Some z → is_earlier s z ≡ false
  uncleared e z has is = at (greatest_clear x) refl
    where
      at : (c : Option Stamp) → greatest_clear x ≡ c → is_earlier s z ≡ false
      at None none =
          absurd (some_stays (greatest_clear x) (ap (λ u. maybe later_stamp u (greatest_clear x)) (sym is)
          ∙ join_of-member later_stamp_laws clear_in x e has) none)
        where
          some_stays : (u : Option Stamp) → maybe later_stamp (Some z) u ≡ u → u ≡ None → ⊥
          some_stays None h n = cc (h)
          some_stays (Some w) h n = cc (n)
      at (Some c) some =
          by_case (is_earlier s z) refl
          (join_of-greatest stamp_cmp clear_in stamp_total stamp_exact x c some e z has is)
          (kept_not_earlier c p (ap (λ u. mark_after_clear u (Some p)) (sym some) ∙ ap (mark_after_clear (greatest_clear x)) (sym is_greatest) ∙ is_kept))
        where
          by_case : (b : Bool) → is_earlier s z ≡ b → is_earlier c z ≡ false → is_earlier s c ≡ false → b ≡ false
          by_case true h q r = absurd (no (is_earlier s c) (not_later-through stamp_total s z c h q) r)
            where
              no : (b : Bool) → b ≡ true → b ≡ false → ⊥
              no true p q = cc (q)
              no false p q = cc (p)
          by_case false h q r = refl

  -- no mark of the value in the first is greater
  outdone : (e : AttrMark) (m : ValueMark) → Contains x e → mark_in v e ≡ Some m → is_lt (mark_cmp p m) ≡ false
  outdone e m has is = join_of-greatest mark_cmp (mark_in v) mark_total mark_exact x p is_greatest e m has is

  no : (b : Bool) → b ≡ true → b ≡ false → ⊥
  no true p q = cc (q)
  no false p q = cc (p)

  in_both : Contains y own.0
  in_both = there own.0 own.1 (ap (is_up_to t) (mark_stamp v own.0 p own.2) ∙ early)

  -- a later clear of the second is later than t
  late_clear : (z : Stamp) → greatest_clear y ≡ Some z → is_earlier s z ≡ true → is_up_to t z ≡ false
  late_clear z is later = at (is_up_to t z) refl
    where
      at : (b : Bool) → is_up_to t z ≡ b → b ≡ false
      at true up =
          let e : HasMember clear_in y z = join_of-among stamp_cmp clear_in y z is in
          absurd (no (is_earlier s z) later
          (uncleared e.0 z (back e.0 e.1 (ap (is_up_to t) (clear_stamp e.0 z e.2) ∙ up)) e.2))
      at false up = refl

  -- a mark of the second up to t is not greater
  not_greater : (m : ValueMark) → greatest_mark y v ≡ Some m → is_up_to t m.stamp ≡ true → is_lt (mark_cmp p m) ≡ false
  not_greater m is up =
      let e : HasMember (mark_in v) y m = join_of-among mark_cmp (mark_in v) y m is in
      outdone e.0 m (back e.0 e.1 (ap (is_up_to t) (mark_stamp v e.0 m e.2) ∙ up)) e.2

  abbrev theirs : AttrCell
  theirs = purged_cell t (cell_of y)

  clear_stays : (z : Stamp) → greatest_clear y ≡ Some z → is_earlier s z ≡ true → theirs.cleared ≡ Some z
  clear_stays z is later =
      ap (option_and_then (clear_left t)) is ∙ ap (λ b. if b then None else Some z) (late_clear z is later)

  -- a mark that no clear is later than, and that is not dropped, stays
  mark_stays : (m : ValueMark) → mark_after_clear (greatest_clear y) (Some m) ≡ Some m → greatest_mark y v ≡ Some m
      → (m.present || not (is_up_to t m.stamp)) ≡ true → get theirs.values v ≡ Some m
  mark_stays m keeps is stays =
      get-purged_cell t (cell_of y) v
      ∙ ap (left t) (get-cell_of y v ∙ ap (mark_after_clear (greatest_clear y)) is ∙ keeps)
      ∙ ap (λ b. if b then Some m else None) stays

  -- what answers
  pub record IsAnswered : Type 0 where
    pub filled : theirs ≢ empty_cell
    pub answers : answers_cell v s theirs ≡ true

  or_right : (a b : Bool) → b ≡ true → (a || b) ≡ true
  or_right true b e = refl
  or_right false b e = e

  by_clear : (z : Stamp) → greatest_clear y ≡ Some z → is_earlier s z ≡ true → IsAnswered
  by_clear z is later =
      let stays : theirs.cleared ≡ Some z = clear_stays z is later in
      record {
        filled = not_empty-clear theirs z stays;
        answers =
            ap (λ c. option_map_or (is_earlier s) c false || option_map_or (answers_mark s) (get theirs.values v) false) stays
            ∙ ap (λ b. b || option_map_or (answers_mark s) (get theirs.values v) false) later;
      }

  by_mark : (m : ValueMark) → get theirs.values v ≡ Some m → answers_mark s m ≡ true → IsAnswered
  by_mark m stays is = record {
    filled = not_empty-mark theirs v m stays;
    answers =
        or_right (option_map_or (is_earlier s) theirs.cleared false) (option_map_or (answers_mark s) (get theirs.values v) false)
        (ap (λ m. option_map_or (answers_mark s) m false) stays ∙ is);
  }

  -- no clear of the second is later: its greatest mark of the value answers
  abbrev NotLater : Option Stamp → Type 0
  NotLater z = (c : Stamp) → z ≡ Some c → is_earlier s c ≡ false

  kept_by : (z : Option Stamp) (m : ValueMark) → ((c : Stamp) → z ≡ Some c → is_earlier m.stamp c ≡ false) → mark_after_clear z (Some m) ≡ Some m
  kept_by None m free = refl
  kept_by (Some c) m free = ap (λ b. if b then None else Some m) (free c refl)

  marked : (m : ValueMark) → greatest_mark y v ≡ Some m → NotLater (greatest_clear y) → is_lt (mark_cmp m p) ≡ false → IsAnswered
  marked m is free not_below = at (is_earlier s m.stamp) refl
    where
      at : (b : Bool) → is_earlier s m.stamp ≡ b → IsAnswered
      at true later =
          let late : is_up_to t m.stamp ≡ false = up (is_up_to t m.stamp) refl in
          by_mark m
          (mark_stays m (kept_by (greatest_clear y) m (λ c h. later-than stamp_total c s m.stamp (free c h) later)) is
          (or_right m.present (not (is_up_to t m.stamp)) (ap not late)))
          (ap (λ b. b || (m.present && is_stamp m.stamp s)) later)
        where
          up : (b : Bool) → is_up_to t m.stamp ≡ b → b ≡ false
          up true h =
              absurd (no (is_lt (mark_cmp p m)) (below (stamp_cmp s m.stamp) (bool_cmp m.present true) later) (not_greater m is h))
            where
              below : (r q : Ordering) → is_lt r ≡ true → is_lt (ordering_then r q) ≡ true
              below r q h = grind (arith, h)
          up false h = refl
      at false not_later =
          let same : is_stamp m.stamp s ≡ true = same_key stamp_total m.stamp s (bool_cmp true m.present) not_below not_later in
          let one : m.stamp ≡ s = ties_are_equal stamp_exact m.stamp s same in
          let shows : m.present ≡ true = by_flag m.present refl one in
          by_mark m
          (mark_stays m (kept_by (greatest_clear y) m (λ c h. ap (λ r. is_earlier r c) one ∙ free c h)) is
          (ap (λ b. b || not (is_up_to t m.stamp)) shows))
          (or_right (is_earlier s m.stamp) (m.present && is_stamp m.stamp s) (ap (λ b. b && is_stamp m.stamp s) shows ∙ same))
        where
          by_flag : (b : Bool) → m.present ≡ b → m.stamp ≡ s → b ≡ true
          by_flag true h one = refl
          by_flag false h one =
              absurd (no (is_lt (mark_cmp p m))
              (ap (λ r. is_lt (ordering_then (stamp_cmp s r) (bool_cmp m.present true))) one
              ∙ ap (λ o. is_lt (ordering_then o (bool_cmp m.present true))) (tied_itself stamp_total s)
              ∙ ap (λ b. is_lt (ordering_then Equal (bool_cmp b true))) h)
              (not_greater m is (ap (is_up_to t) one ∙ early)))

  -- the second answers
  pub attr_answers : IsAnswered
  attr_answers = by_clears (greatest_clear y) refl
    where
      by_marks : NotLater (greatest_clear y) → IsAnswered
      by_marks free = at (greatest_mark y v) refl
        where
          at : (m : Option ValueMark) → greatest_mark y v ≡ m → IsAnswered
          at None none = absurd (gone (greatest_mark y v) (ap (λ u. maybe later u (greatest_mark y v)) (sym own.2)
              ∙ join_of-member later_laws (mark_in v) y own.0 in_both) none)
            where
              gone : (u : Option ValueMark) → maybe later (Some p) u ≡ u → u ≡ None → ⊥
              gone None h n = cc (h)
              gone (Some w) h n = cc (n)
          at (Some m) some =
              marked m some free (join_of-greatest mark_cmp (mark_in v) mark_total mark_exact y m some own.0 p in_both own.2)

      by_later : (z : Stamp) → greatest_clear y ≡ Some z → (b : Bool) → is_earlier s z ≡ b → IsAnswered
      by_later z is true later = by_clear z is later
      by_later z is false not_later = by_marks (λ c h. ap (is_earlier s) (same_inside c z (sym h ∙ is)) ∙ not_later)

      by_clears : (z : Option Stamp) → greatest_clear y ≡ z → IsAnswered
      by_clears None none = by_marks (λ c h. absurd (nothing (greatest_clear y) none h))
        where
          nothing : (u : Option Stamp) → u ≡ None → {c : Stamp} → u ≡ Some c → ⊥
          nothing u n h = cc (n, h)
      by_clears (Some z) some = by_later z some (is_earlier s z) refl

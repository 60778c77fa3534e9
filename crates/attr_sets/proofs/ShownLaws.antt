-- What the values that show are.
use Rattle.std.proofs.Common.{◌≡◌, ℕ, Bool, true, false, cond, List, [], ◌∷◌, Option, Some, None, refl, sym, ap, subst, ◌∙◌, ⊎_elim, ◌↔◌, is_eq}
use Rattle.std.specs.Prelude.{if◌then◌else◌, T, ◌&&◌}
use Rattle.std.specs.declared.cmp.Ordering.{Ordering}
use Rattle.std.specs.declared.cmp.Ordering.TheVariants.{Less, Equal, Greater}
use Rattle.std.specs.Ordering.{is_lt, eq_by_cmp}
use Rattle.std.specs.Cmp.{tied_itself, eq_by_cmp_equiv}
use Rattle.std.specs.Cmp.Lexicographic.{nat_list_cmp_total}
use Rattle.std.specs.Map.{lookup, keys_of}
use Rattle.std.specs.List.{Contains, AllByRecursion}
use Rattle.std.specs.List.Sorted.{IsStrictlySortedBy}
use Rattle.std.specs.FinMap.{FinMap, get, find, entries, entries_sorted, get-entries}
use Rattle.std.specs.FinMap.Entries.{is_sorted, below_all}
use Rattle.std.proofs.lemmas.Map.Keys.{IsDistinct-from_sorted}
use Rattle.std.proofs.lemmas.Map.Views.{Contains-from_lookup, lookup-from_Contains}
use Rattle.cds_stamps.specs.declared.stamp.Stamp.{Stamp}
use Rattle.cds_stamps.specs.Semilattice.{maybe}
use Rattle.cds_stamps.specs.Keyed.{ties_are_equal}
use Rattle.cds_stamps.specs.Octets.{octets_cmp, octets_exact, is_octets}
use Rattle.cds_stamps.specs.Stamps.{is_earlier, stamp_cmp, stamp_total, stamp_exact, later_stamp, later_stamp_laws}
use Rattle.attr_sets.specs.declared.mark.ValueMark.{ValueMark}
use Rattle.attr_sets.specs.Marks.{mark_after_clear, mark_cmp, mark_total, mark_exact}
use Rattle.attr_sets.specs.declared.cell.AttrCell.{AttrCell}
use Rattle.attr_sets.specs.AttributeCells.{AttrMark, Cleared, Marked, clear_in, mark_in}
use Rattle.attr_sets.specs.AttributeCells.{greatest_clear, greatest_mark, marks_kept, present_in, shown_values, cell_values}
use Rattle.attr_sets.specs.CellLawProofs.{get-cell_of}
use Rattle.attr_sets.specs.ShownValues.{IsGreatestMark, IsUncleared, IsShown}
use Rattle.attr_sets.proofs.Greatest.{not_lt-through, Contains-head, Contains-tail, Contains-none, Contains-cases}
use Rattle.attr_sets.proofs.Greatest.{HasMember, join_of-among, join_of-greatest, join_of-is, join_of-member, same_inside}

-- ---- marks of a value, and clears

mark_in-itself : (v : List ℕ) (m : ValueMark) → mark_in v (Marked v m) ≡ Some m
mark_in-itself v m = ap (λ r. if is_eq r then Some m else None) (tied_itself nat_list_cmp_total v)

-- what has a mark of the value is that mark
mark_in-only : (v : List ℕ) (e : AttrMark) (m : ValueMark) → mark_in v e ≡ Some m → e ≡ Marked v m
mark_in-only v (Cleared s) m is = cc
mark_in-only v (Marked w n) m is = by_case (is_octets v w) refl is
  where
    by_case : (b : Bool) → is_octets v w ≡ b → (if b then Some n else None) ≡ Some m → Marked w n ≡ Marked v m
    by_case true at has = λ i. Marked (sym (ties_are_equal octets_exact v w at) i) (same_inside n m has i)
    by_case false at has = cc

clear_in-only : (e : AttrMark) (s : Stamp) → clear_in e ≡ Some s → e ≡ Cleared s
clear_in-only (Cleared c) s is = ap Cleared (same_inside c s is)
clear_in-only (Marked v m) s is = cc

module _ (h : List AttrMark) (v : List ℕ) where
  greatest_from : (m : ValueMark) → greatest_mark h v ≡ Some m → IsGreatestMark h v m
  greatest_from m is = record {
    among = let e : HasMember (mark_in v) h m = join_of-among mark_cmp (mark_in v) h m is in subst (Contains h) (mark_in-only v e.0 m e.2) e.1;
    greatest = λ n c. join_of-greatest mark_cmp (mark_in v) mark_total mark_exact h m is (Marked v n) n c (mark_in-itself v n);
  }

  greatest_to : (m : ValueMark) → IsGreatestMark h v m → greatest_mark h v ≡ Some m
  greatest_to m g =
      join_of-is mark_cmp (mark_in v) mark_total mark_exact h m (Marked v m, g.among, mark_in-itself v m) (λ e n c has. g.greatest n (subst
      (Contains h) (mark_in-only v e n has) c))

-- ---- what the clears keep

nothing_later : (s : Stamp) → maybe later_stamp (Some s) None ≡ None → ⊥
nothing_later s e = cc (e)

if_kept : (b : Bool) (m : ValueMark) → (if b then None else Some m) ≡ Some m → b ≡ false
if_kept true m e = cc (e)
if_kept false m e = refl

module _ (h : List AttrMark) (m : ValueMark) where
  uncleared_to : IsUncleared h m.stamp → mark_after_clear (greatest_clear h) (Some m) ≡ Some m
  uncleared_to free = by_case (greatest_clear h) refl
    where
      by_case : (c : Option Stamp) → greatest_clear h ≡ c → mark_after_clear c (Some m) ≡ Some m
      by_case None is = refl
      by_case (Some c) is =
          let e : HasMember clear_in h c = join_of-among stamp_cmp clear_in h c is in
          ap (λ b. if b then None else Some m) (free c (subst (Contains h) (clear_in-only e.0 c e.2) e.1))

  uncleared_from : mark_after_clear (greatest_clear h) (Some m) ≡ Some m → IsUncleared h m.stamp
  uncleared_from keeps d among = by_case (greatest_clear h) refl keeps
    where
      by_case : (c : Option Stamp) → greatest_clear h ≡ c → mark_after_clear c (Some m) ≡ Some m → is_earlier m.stamp d ≡ false
      by_case None is k =
          absurd (nothing_later d (ap (maybe later_stamp (Some d)) (sym is) ∙ join_of-member later_stamp_laws clear_in h (Cleared d) among ∙ is))
      by_case (Some c) is k =
          not_lt-through stamp_total stamp_exact m.stamp c d (if_kept
          (is_earlier m.stamp c) m k) (join_of-greatest stamp_cmp clear_in stamp_total stamp_exact h c is (Cleared d) d among refl)

-- what is kept was there
kept_of : (c : Option Stamp) (x : Option ValueMark) (m : ValueMark) → mark_after_clear c x ≡ Some m → x ≡ Some m
kept_of c None m e = cc (e)
kept_of None (Some n) m e = e
kept_of (Some c) (Some n) m e = by_case (is_earlier n.stamp c) e
  where
    by_case : (b : Bool) → (if b then None else Some n) ≡ Some m → Some n ≡ Some m
    by_case true is = cc (is)
    by_case false is = is

-- ---- values with a present mark

-- the entries have a present mark of the value
abbrev pub HasPresent : List (List ℕ × ValueMark) → List ℕ → Type 0
HasPresent es v = (m : ValueMark) × Contains es (v, m) × (m.present ≡ true)

further : (e : List ℕ × ValueMark) (es : List (List ℕ × ValueMark)) (v : List ℕ) → HasPresent es v → HasPresent (e ∷ es) v
further e es v h = (h.0, Contains-tail e es (v, h.0) h.1, h.2)

-- a value that is present has a present mark
pub present_from : (es : List (List ℕ × ValueMark)) (v : List ℕ) → Contains (present_in es) v → HasPresent es v
present_from [] v c = absurd (Contains-none v c)
present_from (e ∷ es) v c = by_case (present_from es v) e.1.present refl c
  where
    by_case : (Contains (present_in es) v → HasPresent es v) → (b : Bool) → e.1.present ≡ b
        → Contains (if b then e.0 ∷ present_in es else present_in es) v → HasPresent (e ∷ es) v
    by_case rest true p has =
        ⊎_elim (λ is. (
          e.1,
          subst (λ w. Contains
              (e ∷ es) (w, e.1)) is (Contains-head e es),
          p,
        )) (λ in_rest. further e es v (rest in_rest)) (Contains-cases e.0 (present_in es) v has)
    by_case rest false p has = further e es v (rest has)

-- and a value with a present mark is present
pub present_to : (es : List (List ℕ × ValueMark)) (v : List ℕ) (m : ValueMark) → m.present ≡ true → Contains es (v, m) → Contains (present_in es) v
present_to [] v m p c = absurd (Contains-none (v, m) c)
present_to (e ∷ es) v m p c = ⊎_elim here (λ rest. there e.1.present (present_to es v m p rest)) (Contains-cases e es (v, m) c)
  where
    here : e ≡ (v, m) → Contains (if e.1.present then e.0 ∷ present_in es else present_in es) v
    here is = subst (λ (d : List ℕ × ValueMark). Contains (if d.1.present then d.0 ∷ present_in es else present_in es) v) (sym is)
        (subst (λ b. Contains (if b then v ∷ present_in es else present_in es) v) (sym p) (Contains-head v (present_in es)))

    there : (b : Bool) → Contains (present_in es) v → Contains (if b then e.0 ∷ present_in es else present_in es) v
    there true rest = Contains-tail e.0 (present_in es) v rest
    there false rest = rest

-- ---- the entries of a map

first_of : (a b : Bool) → T (a && b) → T a × T b
first_of true b h = (tt, h)
first_of false b h = absurd h

is_less : (r : Ordering) → T (is_lt r) → r ≡ Less
is_less Less h = refl
is_less Equal h = absurd h
is_less Greater h = absurd h

module _ {K X : Type 0} (R : K → K → Ordering) where
  all_below : (k : K) (es : List (K × X)) → T (below_all R k es) → AllByRecursion (λ y. R k y ≡ Less) (keys_of es)
  all_below k [] h = tt
  all_below k (e ∷ es) h = let p = first_of (is_lt (R k e.0)) (below_all R k es) h in (is_less (R k e.0) p.0, all_below k es p.1)

  -- the keys of sorted entries ascend
  pub keys_rise : (es : List (K × X)) → T (is_sorted R es) → IsStrictlySortedBy R (keys_of es)
  unfolding IsStrictlySortedBy
  keys_rise [] h = tt
  keys_rise (e ∷ es) h = let p = first_of (below_all R e.0 es) (is_sorted R es) h in (all_below e.0 es p.0, keys_rise es p.1)

  find_of : (es : List (K × X)) (q : K) → find R q es ≡ lookup (eq_by_cmp R q) es
  find_of [] q = refl
  find_of (e ∷ es) q = ap (cond (eq_by_cmp R q e.0) (Some e.1)) (find_of es q)

present_below : (P : List ℕ → Type 0) (es : List (List ℕ × ValueMark)) → AllByRecursion P (keys_of es) → AllByRecursion P (present_in es)
present_below P [] h = tt
present_below P (e ∷ es) h = by_case e.1.present (present_below P es h.1)
  where
    by_case : (b : Bool) → AllByRecursion P (present_in es) → AllByRecursion P (if b then e.0 ∷ present_in es else present_in es)
    by_case true rest = (h.0, rest)
    by_case false rest = rest

-- what is present of entries in order ascends
pub present_rise : (es : List (List ℕ × ValueMark)) → IsStrictlySortedBy octets_cmp (keys_of es) → IsStrictlySortedBy octets_cmp (present_in es)
unfolding IsStrictlySortedBy
present_rise [] h = tt
present_rise (e ∷ es) h = by_case e.1.present (present_below (λ y. octets_cmp e.0 y ≡ Less) es h.0) (present_rise es h.1)
  where
    by_case : (b : Bool) → AllByRecursion (λ y. octets_cmp e.0 y ≡ Less) (present_in es) → IsStrictlySortedBy octets_cmp (present_in es)
        → IsStrictlySortedBy octets_cmp (if b then e.0 ∷ present_in es else present_in es)
    by_case true below rest = (below, rest)
    by_case false below rest = rest

module _ {X : Type 0} where
  -- the keys of a map ascend
  pub map_rises : (m : FinMap octets_cmp X) → IsStrictlySortedBy octets_cmp (keys_of (entries m))
  map_rises m = keys_rise octets_cmp (entries m) (entries_sorted m)

  -- what an entry has is what the map has at its key
  pub has_entry : (m : FinMap octets_cmp X) (v : List ℕ) (x : X) → Contains (entries m) (v, x) → get m v ≡ Some x
  has_entry m v x c =
      get-entries m v ∙ find_of octets_cmp (entries m) v
      ∙ lookup-from_Contains (eq_by_cmp_equiv nat_list_cmp_total) v x (entries m) (IsDistinct-from_sorted octets_cmp (keys_of (entries m)) (map_rises m)) c

  -- and what the map has is an entry
  pub entry_of : (m : FinMap octets_cmp X) (v : List ℕ) (x : X) → get m v ≡ Some x → Contains (entries m) (v, x)
  entry_of m v x is = Contains-from_lookup (ties_are_equal octets_exact) v x (entries m) (sym (get-entries m v ∙ find_of octets_cmp (entries m) v) ∙ is)

-- ---- the values that show

-- the values that are present in a cell ascend, each once
pub cell_values-ascending : (c : AttrCell) → IsStrictlySortedBy octets_cmp (cell_values c)
cell_values-ascending c = present_rise (entries c.values) (map_rises c.values)

-- and so do those that a history shows
pub shown_values-ascending : (h : List AttrMark) → IsStrictlySortedBy octets_cmp (shown_values h)
shown_values-ascending h = present_rise (entries (marks_kept h)) (map_rises (marks_kept h))

shown_from : (h : List AttrMark) (v : List ℕ) → Contains (shown_values h) v → IsShown h v
shown_from h v c =
    let p : HasPresent (entries (marks_kept h)) v = present_from (entries (marks_kept h)) v c in
    let keeps : mark_after_clear (greatest_clear h) (greatest_mark h v) ≡ Some p.0 = sym (get-cell_of h v) ∙ has_entry (marks_kept h) v p.0 p.1 in
    let is : greatest_mark h v ≡ Some p.0 = kept_of (greatest_clear h) (greatest_mark h v) p.0 keeps in
    record { mark = p.0; greatest = greatest_from h v p.0 is; present = p.2; uncleared = uncleared_from h p.0 (ap (mark_after_clear (greatest_clear h)) (sym is) ∙ keeps) }

shown_to : (h : List AttrMark) (v : List ℕ) → IsShown h v → Contains (shown_values h) v
shown_to h v s =
    present_to (entries (marks_kept h)) v s.mark s.present
    (entry_of (marks_kept h) v s.mark (get-cell_of h v ∙ ap (mark_after_clear (greatest_clear h)) (greatest_to h v s.mark s.greatest) ∙ uncleared_to h s.mark s.uncleared))

-- a value shows exactly where its greatest mark says so
pub shown_values-are : (h : List AttrMark) (v : List ℕ) → Contains (shown_values h) v ↔ IsShown h v
shown_values-are h v = (shown_from h v, shown_to h v)

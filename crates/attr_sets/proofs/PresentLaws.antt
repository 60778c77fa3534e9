-- The values that are present in maps of marks: maps with the same present marks show the same
-- values, as a purged cell does.
use Rattle.std.proofs.Common.{◌≡◌, ℕ, Bool, true, false, List, Option, Some, None, sym, ap, ◌∙◌}
use Rattle.std.specs.Prelude.{◌||◌, not, if◌then◌else◌}
use Rattle.std.specs.FinMap.{get, entries}
use Rattle.cds_stamps.specs.declared.stamp.Stamp.{Stamp}
use Rattle.cds_stamps.specs.Stamps.{is_up_to}
use Rattle.cds_stamps.proofs.AscendingLaws.{Within, one_order}
use Rattle.attr_sets.specs.declared.mark.ValueMark.{ValueMark}
use Rattle.attr_sets.specs.declared.cell.AttrCell.{AttrCell}
use Rattle.attr_sets.specs.Marks.{ValueMarks}
use Rattle.attr_sets.specs.AttributeCells.{present_in, cell_values}
use Rattle.attr_sets.specs.CellPurges.{purged_cell}
use Rattle.attr_sets.proofs.MarkPurgeLaws.{left}
use Rattle.attr_sets.proofs.CellPurgeLaws.{get-purged_cell}
use Rattle.attr_sets.proofs.ShownLaws.{HasPresent, present_from, present_to, present_rise, map_rises, has_entry, entry_of}

-- the second map has the present marks of the first
abbrev pub HasPresentOf : ValueMarks → ValueMarks → Type 0
HasPresentOf m n = (v : List ℕ) (x : ValueMark) → x.present ≡ true → get m v ≡ Some x → get n v ≡ Some x

present_within : (m n : ValueMarks) → HasPresentOf m n → Within (present_in (entries m)) (present_in (entries n))
present_within m n has v c =
    let p : HasPresent (entries m) v = present_from (entries m) v c in
    present_to (entries n) v p.0 p.2 (entry_of n v p.0 (has v p.0 p.2 (has_entry m v p.0 p.1)))

-- maps with the same present marks have the same values present
pub same_present : (m n : ValueMarks) → HasPresentOf m n → HasPresentOf n m → present_in (entries m) ≡ present_in (entries n)
same_present m n to from =
    one_order (present_in (entries m)) (present_in (entries n)) (present_rise (entries m) (map_rises m)) (present_rise (entries n) (map_rises n))
    (present_within m n to) (present_within n m from)

left_present : (t : Stamp) (y : Option ValueMark) (x : ValueMark) → left t y ≡ Some x → y ≡ Some x
left_present t None x e = cc (e)
left_present t (Some m) x e = by_case (m.present || not (is_up_to t m.stamp)) e
  where
    by_case : (b : Bool) → (if b then Some m else None) ≡ Some x → Some m ≡ Some x
    by_case true is = is
    by_case false is = cc (is)

present_left : (t : Stamp) (x : ValueMark) → x.present ≡ true → left t (Some x) ≡ Some x
present_left t x e = ap (λ b. if b || not (is_up_to t x.stamp) then Some x else None) e

-- a purged cell shows the same values
pub cell_values-purged : (t : Stamp) (a : AttrCell) → cell_values (purged_cell t a) ≡ cell_values a
cell_values-purged t a =
    same_present (purged_cell t a).values a.values (λ v x is had. left_present t (get a.values v) x (sym (get-purged_cell t a v) ∙ had))
    (λ v x is had. get-purged_cell t a v ∙ ap (left t) had ∙ present_left t x is)

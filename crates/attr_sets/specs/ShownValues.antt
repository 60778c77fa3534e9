-- Which values of an attribute show, said of the marks of its history one by one (own, after C705,
-- present and absent values).
use Rattle.std.specs.Prelude.{◌≡◌, ℕ, true, false, List}
use Rattle.std.specs.List.{Contains}
use Rattle.std.specs.Ordering.{is_lt}
use Rattle.cds_stamps.specs.declared.stamp.Stamp.{Stamp}
use Rattle.cds_stamps.specs.Stamps.{is_earlier}
use Rattle.attr_sets.specs.declared.mark.ValueMark.{ValueMark}
use Rattle.attr_sets.specs.Marks.{mark_cmp}
use Rattle.attr_sets.specs.AttributeCells.{AttrMark, Cleared, Marked, attr_stamp}

-- the history has this mark of the value, and none of it that is greater (own)
pub record IsGreatestMark (h : List AttrMark) (v : List ℕ) (m : ValueMark) : Type 0 where
  pub among : Contains h (Marked v m)
  pub greatest : (n : ValueMark) → Contains h (Marked v n) → is_lt (mark_cmp m n) ≡ false

-- no clear of the history is later than the stamp (own)
abbrev pub IsUncleared : List AttrMark → Stamp → Type 0
IsUncleared h s = (c : Stamp) → Contains h (Cleared c) → is_earlier s c ≡ false

-- the greatest mark of the value is present, and not earlier than any clear (own, after C705,
-- present and absent values)
pub record IsShown (h : List AttrMark) (v : List ℕ) : Type 0 where
  pub mark : ValueMark
  pub greatest : IsGreatestMark h v mark
  pub present : mark.present ≡ true
  pub uncleared : IsUncleared h mark.stamp

-- each mark of the history is earlier than the stamp (own, after C705, timestamps of updates)
abbrev pub IsBefore : List AttrMark → Stamp → Type 0
IsBefore h s = (m : AttrMark) → Contains h m → is_earlier (attr_stamp m) s ≡ true

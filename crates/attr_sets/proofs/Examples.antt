-- The definitions at single histories, by computing.
use Rattle.std.proofs.Common.{◌≡◌, ℕ, true, false, List, [], ◌∷◌, refl}
use Rattle.std.specs.Prelude.{true, false, Some, None, replicate}
use Rattle.cds_stamps.specs.declared.stamp.Stamp.{Stamp}
use Rattle.attr_sets.specs.declared.mark.ValueMark.{ValueMark}
use Rattle.attr_sets.specs.declared.value.ValueFault.TheVariants.{BadSize}
use Rattle.attr_sets.specs.Values.{value_fault}
use Rattle.attr_sets.specs.Marks.{later, mark_after_clear}
use Rattle.attr_sets.specs.AttributeCells.{AttrMark, Cleared, Marked, greatest_clear, greatest_mark}
use Rattle.attr_sets.specs.CellPurges.{is_above, mark_left, clear_left, mark_after}

-- a stamp of one node, and marks with it
abbrev at : ℕ → Stamp
at t = record { time = t; node = 10 }

abbrev present_at : ℕ → ValueMark
present_at t = record { present = true; stamp = at t }

abbrev absent_at : ℕ → ValueMark
absent_at t = record { present = false; stamp = at t }

-- octets are a value from 1 to 1,024
empty_value : value_fault [] ≡ Some BadSize
empty_value = refl

least_value : value_fault (0 ∷ []) ≡ None
least_value = refl

greatest_value : value_fault (replicate 1024 0) ≡ None
greatest_value = refl

too_great_value : value_fault (replicate 1025 0) ≡ Some BadSize
too_great_value = refl

-- the later of two marks counts, and of one stamp the absent one
later_present : later (absent_at 2) (present_at 3) ≡ present_at 3
later_present = refl

later_absent : later (absent_at 3) (present_at 2) ≡ absent_at 3
later_absent = refl

tied_absent : later (present_at 3) (absent_at 3) ≡ absent_at 3
tied_absent = refl

-- a clear takes what is earlier, and nothing of its own stamp
kept_at_clear : mark_after_clear (Some (at 3)) (Some (present_at 3)) ≡ Some (present_at 3)
kept_at_clear = refl

taken_before_clear : mark_after_clear (Some (at 3)) (Some (present_at 2)) ≡ None
taken_before_clear = refl

-- value 01 is added at 2 and removed at 4, 02 is put at 3
abbrev history : List AttrMark
history = Marked (1 ∷ []) (present_at 2) ∷ Marked (1 ∷ []) (absent_at 4) ∷ Cleared (at 3) ∷ Marked (2 ∷ []) (present_at 3) ∷ []

clear_of_history : greatest_clear history ≡ Some (at 3)
clear_of_history = refl

mark_of_history : greatest_mark history (1 ∷ []) ≡ Some (absent_at 4)
mark_of_history = refl

no_mark_of_history : greatest_mark history (3 ∷ []) ≡ None
no_mark_of_history = refl

-- up to a stamp is with that stamp: absent marks and clears are dropped, present marks stay
absent_mark_dropped : mark_left (at 3) (absent_at 3) ≡ None
absent_mark_dropped = refl

later_absent_mark_stays : mark_left (at 3) (absent_at 4) ≡ Some (absent_at 4)
later_absent_mark_stays = refl

present_mark_stays : mark_left (at 3) (present_at 2) ≡ Some (present_at 2)
present_mark_stays = refl

clear_dropped : clear_left (at 3) (at 3) ≡ None
clear_dropped = refl

later_clear_stays : clear_left (at 3) (at 4) ≡ Some (at 4)
later_clear_stays = refl

-- every stamp is above none
above_none : is_above None (at 0) ≡ true
above_none = refl

not_above_itself : is_above (Some (at 3)) (at 3) ≡ false
not_above_itself = refl

-- later than a stamp is without it, of present marks as of absent ones
mark_at_the_stamp : mark_after (at 3) (present_at 3) ≡ None
mark_at_the_stamp = refl

mark_after_the_stamp : mark_after (at 3) (absent_at 4) ≡ Some (absent_at 4)
mark_after_the_stamp = refl

-- The octets of marks are the whole of them.
use Rattle.std.proofs.Common.{◌≡◌, Bool, true, false, cond, Option, Some, None, refl, ap, ◌∙◌}
use Rattle.std.specs.Prelude.{◌==◌, IfSome, if◌then◌else◌}
use Rattle.cds_stamps.specs.declared.stamp.Stamp.{Stamp}
use Rattle.cds_stamps.specs.Stamps.{is_earlier}
use Rattle.attr_sets.specs.declared.mark.ValueMark.{ValueMark}
use Rattle.attr_sets.specs.CellPurges.{is_above}
use Rattle.attr_sets.specs.Marks.{mark_after_clear}
use Rattle.attr_sets.specs.Values.{value_fault}
use Rattle.record_fields.specs.declared.fault.Rule.TheVariants.{BadFlag, OutOfOrder}
use Rattle.record_fields.specs.Layouts.{done, next}
use Rattle.record_fields.specs.Fields.{outside, above_rule, mark_rule, stamp, value}
use Rattle.record_fields.specs.ListLayouts.{mark}
use Rattle.record_fields.specs.FieldOctets.{value_octets, mark_octets}
use Rattle.record_fields.specs.FieldRanges.{FitsStamp}
use Rattle.record_fields.proofs.WholeFields.{Whole, Keyed, octets_keys, whole_next, whole_last, octet_whole, stamp_whole, value_whole, above_lawful}

flag_back : (b : Bool) → (outside BadFlag 0 1 (if b then 1 else 0) ≡ None) × (((if b then 1 else 0) == 1) ≡ b)
flag_back true = (refl, refl)
flag_back false = (refl, refl)

-- a mark that is above and not earlier than the clear
pub mark_whole : (above cleared : Option Stamp) (m : ValueMark) → mark_rule above cleared m.stamp ≡ None → FitsStamp m.stamp
    → Whole (mark above cleared) m (mark_octets m)
unfolding mark mark_octets
mark_whole above cleared m lawful fits =
    let back = flag_back m.present in
    whole_next {second = λ present. next (stamp (mark_rule above cleared)) (λ s. done (record { present = present == 1; stamp = s }))}
    (octet_whole (outside BadFlag 0 1) (if m.present then 1 else 0) back.0)
    (whole_last {f = λ s. record { present = (if m.present then 1 else 0) == 1; stamp = s }} (stamp_whole (mark_rule above cleared) m.stamp fits lawful)
    (λ i. record { present = back.1 i; stamp = m.stamp }))

-- a mark that is kept and above breaks no rule
pub mark_in_order : (above cleared : Option Stamp) (o : Option ValueMark) → mark_after_clear cleared o ≡ o → IfSome o (λ m. is_above above m.stamp ≡ true)
    → IfSome o (λ m. mark_rule above cleared m.stamp ≡ None)
mark_in_order above cleared None e is = tt
mark_in_order above None (Some m) e is = above_lawful above m.stamp is
mark_in_order above (Some c) (Some m) e is = at (is_earlier m.stamp c) refl e
  where
    at : (b : Bool) → is_earlier m.stamp c ≡ b → cond b None (Some m) ≡ Some m → mark_rule above (Some c) m.stamp ≡ None
    at true t e = absurd cc
    at false t e = ap (λ b. if b then Some OutOfOrder else above_rule above m.stamp) t ∙ above_lawful above m.stamp is

-- the values of an attribute with their marks, as keys and contents
pub marks : (above cleared : Option Stamp)
    → Keyed octets_keys (λ (m : ValueMark). mark_rule above cleared m.stamp ≡ None) value (mark above cleared) (λ v. value_fault v ≡ None)
    (λ m. FitsStamp m.stamp) value_octets mark_octets
marks above cleared = record { keys = λ before v fits rises. value_whole before v fits rises; contents = mark_whole above cleared }

use Rattle.std.proofs.Common.{◌≡◌, None}
use Rattle.std.specs.FinMap.{entries}
use Rattle.attr_sets.specs.declared.mark.ValueMark.{ValueMark}
use Rattle.attr_sets.specs.Values.{value_fault}
use Rattle.record_fields.specs.FieldOctets.{value_octets, mark_octets}
use Rattle.record_fields.specs.FieldRanges.{FitsStamp}
use Rattle.record_fields.proofs.WritingLoops.{Written}
use Rattle.record_fields.proofs.writing.put_marks.Given as goal

abbrev pub invariant-loop-value : goal.invariant-loop-value
invariant-loop-value l =
    Written value_octets mark_octets (λ v. value_fault v ≡ None) (λ (m : ValueMark). FitsStamp m.stamp)
    (entries l.marks) l.value-iterator l.fn.out.items l.out.items

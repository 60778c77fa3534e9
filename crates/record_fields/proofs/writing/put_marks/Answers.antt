use Rattle.std.proofs.Common.{◌∙◌}
use Rattle.std.proofs.Common.{◌≡◌, None}
use Rattle.std.specs.FinMap.{entries}
use Rattle.attr_sets.specs.declared.mark.ValueMark.{ValueMark}
use Rattle.attr_sets.specs.Values.{value_fault}
use Rattle.record_fields.specs.FieldOctets.{value_octets, mark_octets}
use Rattle.record_fields.specs.FieldRanges.{FitsStamp}
use Rattle.record_fields.proofs.WritingLoops.{writing_begins, writing_goes_on, writing_ends}
use Rattle.record_fields.proofs.writing.put_marks.Goals as goal

pub loop-value-init : goal.loop-value-init
loop-value-init c =
    writing_begins value_octets mark_octets (λ v. value_fault v ≡ None) (λ (m : ValueMark). FitsStamp m.stamp)
    (entries c.args.marks.now) _ c.args.out.now.items
    (c.into_iter-value-iterator.ensures.into_iter_gives ∙ c.iter-value-items.ensures)

pub loop-value-preserved : goal.loop-value-preserved
loop-value-preserved c =
    writing_goes_on value_octets mark_octets (λ v. value_fault v ≡ None) (λ (m : ValueMark). FitsStamp m.stamp)
    (entries c.args.marks.now) c.loop-value.value-iterator c.next.new.self c.in-Some.value.now c.in-Some.mark.now
    c.args.out.now.items c.loop-value.out.items c.put_marked.new.out.items
    c.in-Some.ensures.steps c.loop-value.invariant c.in_ok-put_marked.ensures.octets c.in_ok-put_marked.ensures.fits

pub returns-clause-octets : goal.returns-clause-octets
returns-clause-octets c =
    (writing_ends value_octets mark_octets (λ v. value_fault v ≡ None) (λ (m : ValueMark). FitsStamp m.stamp)
    (entries c.args.marks.now) c.loop-value.value-iterator
    c.args.out.now.items c.loop-value.out.items c.in-None.ensures.steps.0 c.loop-value.invariant).0

pub returns-clause-fits : goal.returns-clause-fits
returns-clause-fits c =
    (writing_ends value_octets mark_octets (λ v. value_fault v ≡ None) (λ (m : ValueMark). FitsStamp m.stamp)
    (entries c.args.marks.now) c.loop-value.value-iterator
    c.args.out.now.items c.loop-value.out.items c.in-None.ensures.steps.0 c.loop-value.invariant).1

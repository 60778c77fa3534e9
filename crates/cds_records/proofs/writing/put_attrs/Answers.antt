use Rattle.std.proofs.Common.{◌∙◌}
use Rattle.std.proofs.Common.{◌≡◌, None}
use Rattle.std.specs.FinMap.{entries}
use Rattle.cds_stamps.specs.Names.{attr_fault}
use Rattle.record_fields.specs.FieldOctets.{name_octets, cell_octets}
use Rattle.record_fields.specs.FieldRanges.{FitsCell}
use Rattle.record_fields.proofs.WritingLoops.{writing_begins, writing_goes_on, writing_ends}
use Rattle.cds_records.proofs.writing.put_attrs.Goals as goal

pub loop-name-init : goal.loop-name-init
loop-name-init c =
    writing_begins name_octets cell_octets (λ n. attr_fault n ≡ None) FitsCell
    (entries c.args.attrs.now) _ c.args.out.now.items
    (c.into_iter-name-iterator.ensures.into_iter_gives ∙ c.iter-name-items.ensures)

pub loop-name-preserved : goal.loop-name-preserved
loop-name-preserved c =
    writing_goes_on name_octets cell_octets (λ n. attr_fault n ≡ None) FitsCell
    (entries c.args.attrs.now) c.loop-name.name-iterator c.next.new.self c.in-Some.name.now c.in-Some.cell.now
    c.args.out.now.items c.loop-name.out.items c.put_attr.new.out.items
    c.in-Some.ensures.steps c.loop-name.invariant c.in_ok-put_attr.ensures.octets c.in_ok-put_attr.ensures.fits

pub returns-clause-octets : goal.returns-clause-octets
returns-clause-octets c =
    (writing_ends name_octets cell_octets (λ n. attr_fault n ≡ None) FitsCell
    (entries c.args.attrs.now) c.loop-name.name-iterator
    c.args.out.now.items c.loop-name.out.items c.in-None.ensures.steps.0 c.loop-name.invariant).0

pub returns-clause-fits : goal.returns-clause-fits
returns-clause-fits c =
    (writing_ends name_octets cell_octets (λ n. attr_fault n ≡ None) FitsCell
    (entries c.args.attrs.now) c.loop-name.name-iterator
    c.args.out.now.items c.loop-name.out.items c.in-None.ensures.steps.0 c.loop-name.invariant).1

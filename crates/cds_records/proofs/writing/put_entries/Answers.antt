use Rattle.std.proofs.Common.{◌≡◌, None}
use Rattle.cds_stamps.specs.Names.{simple_name_fault}
use Rattle.record_fields.specs.FieldOctets.{name_octets}
use Rattle.cds_records.specs.RecordOctets.{entry_octets}
use Rattle.cds_records.specs.RecordRanges.{FitsEntry}
use Rattle.record_fields.proofs.WritingLoops.{writing_begins, writing_goes_on, writing_ends}
use Rattle.cds_records.proofs.writing.put_entries.Goals as goal

pub loop-name-init : goal.loop-name-init
loop-name-init c =
    writing_begins name_octets entry_octets (λ n. simple_name_fault n ≡ None) FitsEntry
    c.args.list _ c.args.out.now.items
    c.into_iter-name-iterator.ensures.into_iter_gives

pub loop-name-preserved : goal.loop-name-preserved
loop-name-preserved c =
    writing_goes_on name_octets entry_octets (λ n. simple_name_fault n ≡ None) FitsEntry
    c.args.list c.loop-name.name-iterator c.next.new.self c.in-Some.name.now c.in-Some.entry.now
    c.args.out.now.items c.loop-name.out.items c.put_named.new.out.items
    c.in-Some.ensures.steps c.loop-name.invariant c.in_ok-put_named.ensures.octets c.in_ok-put_named.ensures.fits

pub returns-clause-octets : goal.returns-clause-octets
returns-clause-octets c =
    (writing_ends name_octets entry_octets (λ n. simple_name_fault n ≡ None) FitsEntry
    c.args.list c.loop-name.name-iterator
    c.args.out.now.items c.loop-name.out.items c.in-None.ensures.steps.0 c.loop-name.invariant).0

pub returns-clause-fits : goal.returns-clause-fits
returns-clause-fits c =
    (writing_ends name_octets entry_octets (λ n. simple_name_fault n ≡ None) FitsEntry
    c.args.list c.loop-name.name-iterator
    c.args.out.now.items c.loop-name.out.items c.in-None.ensures.steps.0 c.loop-name.invariant).1

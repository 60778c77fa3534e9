use Rattle.std.proofs.Common.{◌∙◌}
use Rattle.std.proofs.Common.{◌<◌, ◌^◌}
use Rattle.std.specs.FinMap.{entries}
use Rattle.cds_stamps.specs.declared.numbers.DirId.{DirId}
use Rattle.cds_records.specs.RecordOctets.{dir_octets, kept_octets}
use Rattle.cds_records.specs.RecordRanges.{FitsDir}
use Rattle.record_fields.proofs.WritingLoops.{writing_begins, writing_goes_on, writing_ends}
use Rattle.cds_records.proofs.image_encoding.put_dirs.Goals as goal

pub loop-dir-init : goal.loop-dir-init
loop-dir-init c =
    writing_begins dir_octets kept_octets (λ (d : DirId). d.0 < 2 ^ 32) FitsDir
    (entries c.args.dirs.now) _ c.args.out.now.items
    (c.into_iter-dir-iterator.ensures.into_iter_gives ∙ c.iter-dir-items.ensures)

pub loop-dir-preserved : goal.loop-dir-preserved
loop-dir-preserved c =
    writing_goes_on dir_octets kept_octets (λ (d : DirId). d.0 < 2 ^ 32) FitsDir
    (entries c.args.dirs.now) c.loop-dir.dir-iterator c.next.new.self c.in-Some.dir.now c.in-Some.kept.now
    c.args.out.now.items c.loop-dir.out.items c.put_dir.new.out.items
    c.in-Some.ensures.steps c.loop-dir.invariant c.in_ok-put_dir.ensures.octets c.in_ok-put_dir.ensures.fits

pub returns-clause-octets : goal.returns-clause-octets
returns-clause-octets c =
    (writing_ends dir_octets kept_octets (λ (d : DirId). d.0 < 2 ^ 32) FitsDir
    (entries c.args.dirs.now) c.loop-dir.dir-iterator
    c.args.out.now.items c.loop-dir.out.items c.in-None.ensures.steps.0 c.loop-dir.invariant).0

pub returns-clause-fits : goal.returns-clause-fits
returns-clause-fits c =
    (writing_ends dir_octets kept_octets (λ (d : DirId). d.0 < 2 ^ 32) FitsDir
    (entries c.args.dirs.now) c.loop-dir.dir-iterator
    c.args.out.now.items c.loop-dir.out.items c.in-None.ensures.steps.0 c.loop-dir.invariant).1

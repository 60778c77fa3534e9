use Rattle.std.proofs.Common.{◌∙◌, ◌<◌, ◌^◌, List, ℕ}
use Rattle.std.specs.FinMap.{entries}
use Rattle.cds_stamps.specs.declared.numbers.DirId.{DirId}
use Rattle.cds_records.specs.RecordOctets.{dir_octets, kept_octets}
use Rattle.cds_records.specs.RecordRanges.{FitsDir}
use Rattle.record_fields.proofs.WritingLoops.{writing_begins, writing_goes_on, writing_ends}
use Rattle.clearinghouse.specs.HouseImages.{kept_of}
use Rattle.house_directory.specs.declared.states.DirState.{DirState}
use Rattle.clearinghouse.proofs.images.write_states.Goals as goal

abbrev Fits : DirId → Type 0
Fits d = d.0 < 2 ^ 32

abbrev said : DirState → List ℕ
said s = kept_octets (kept_of s)

abbrev FitsKept : DirState → Type 0
FitsKept s = FitsDir (kept_of s)

pub loop-dir-init : goal.loop-dir-init
loop-dir-init c =
    writing_begins dir_octets said Fits FitsKept (entries c.args.states.now) _ c.args.image.now
    (c.into_iter-dir-iterator.ensures.into_iter_gives ∙ c.iter-dir-items.ensures)

pub loop-dir-preserved : goal.loop-dir-preserved
loop-dir-preserved c =
    writing_goes_on dir_octets said Fits FitsKept (entries c.args.states.now) c.loop-dir.dir-iterator c.next.new.self
    c.in-Some.dir.now c.in-Some.state.now c.args.image.now c.loop-dir.image c.write_state.new.image c.in-Some.ensures.steps c.loop-dir.invariant
    c.in_ok-write_state.ensures.octets c.in_ok-write_state.ensures.fits

pub returns-clause-octets : goal.returns-clause-octets
returns-clause-octets c =
    (writing_ends dir_octets said Fits FitsKept (entries c.args.states.now) c.loop-dir.dir-iterator c.args.image.now c.loop-dir.image
    c.in-None.ensures.steps.0 c.loop-dir.invariant).0

pub returns-clause-fits : goal.returns-clause-fits
returns-clause-fits c =
    (writing_ends dir_octets said Fits FitsKept (entries c.args.states.now) c.loop-dir.dir-iterator c.args.image.now c.loop-dir.image
    c.in-None.ensures.steps.0 c.loop-dir.invariant).1

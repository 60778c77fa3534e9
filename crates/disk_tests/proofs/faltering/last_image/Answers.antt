use Rattle.house_journal.specs.MemoryDisks.{MemState}
use Rattle.house_journal.specs.ClockProofs.{reads_left_lem}
use Rattle.disk_tests.proofs.faltering.last_image.Goals as goal

pub open-requires : goal.open-requires
open-requires c =
    let m : MemState = c.args.disk.now.disk in
    (c.requires.opens m.octets (reads_left_lem m.steps m.octets)).small

use Rattle.cell_replay.proofs.NewDisks.{AreNewSo}
use Rattle.cell_replay.proofs.replay.new_disks.Given as goal

abbrev pub invariant-disks : goal.invariant-disks
invariant-disks l = AreNewSo l.disks.items l.made

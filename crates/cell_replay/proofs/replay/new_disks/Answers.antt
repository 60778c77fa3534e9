use Rattle.std.proofs.Common.{arith, subst, sym}
use Rattle.cell_replay.proofs.NewDisks.{AreNewSo, all_new, is_new, none_new, one_new}
use Rattle.cell_replay.proofs.replay.new_disks.Goals as goal

pub disks-init : goal.disks-init
disks-init c = subst (λ ds. AreNewSo ds 0) (sym c.new-disks.ensures.items) none_new

pub disks-preserved : goal.disks-preserved
disks-preserved c = one_new _ _ c.new.result c.disks.made c.disks.invariant (is_new _ c.new.ensures.empty) c.in_ok-push.ensures.items

pub returns : goal.returns
returns c = all_new _ (subst (λ n. AreNewSo c.disks.disks.items n) (omega arith) c.disks.invariant)

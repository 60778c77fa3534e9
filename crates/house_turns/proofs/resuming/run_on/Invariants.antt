use Rattle.std.proofs.Common.{◌≡◌, drop}
use Rattle.clearinghouse.specs.HouseImages.{with_skulks}
use Rattle.house_turns.proofs.resuming.run_on.Given as goal

abbrev pub invariant-loop-skulk : goal.invariant-loop-skulk
invariant-loop-skulk l = with_skulks (drop l.skulk-index l.skulks) l.home ≡ with_skulks l.skulks l.fn.home

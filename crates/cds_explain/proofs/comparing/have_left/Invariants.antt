use Rattle.std.proofs.Common.{length}
use Rattle.cds_explain.proofs.ComparingLemmas.{LeaveAlike}
use Rattle.cds_explain.proofs.comparing.have_left.Given as goal

abbrev pub invariant-members : goal.invariant-members
invariant-members l = LeaveAlike l.fn.before l.fn.left l.rest l.leaving l.now

abbrev pub decreases-members : goal.decreases-members
decreases-members l = length l.rest

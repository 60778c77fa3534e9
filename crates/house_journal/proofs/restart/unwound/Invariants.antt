use Rattle.std.proofs.Common.{◌++◌, take, reverse}
use Rattle.house_journal.specs.Unwindings.{AreFrom, TearFrom}
use Rattle.house_journal.proofs.Restarting.{IsBack}
use Rattle.house_journal.proofs.restart.unwound.Given as goal

abbrev pub invariant-back : goal.invariant-back
invariant-back l = record {
  back : IsBack l.steps l.fn.octets l.left (take l.low l.fn.octets ++ l.end.items) l.tears.items;
  steps_from : AreFrom l.low (reverse (take l.left l.steps));
  tears_from : TearFrom l.low l.tears.items;
}

abbrev pub decreases-back : goal.decreases-back
decreases-back l = l.left

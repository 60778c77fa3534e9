use Rattle.std.proofs.Common.{drop}
use Rattle.house_directory.proofs.Posts.{LeavesRest}
use Rattle.house_directory.proofs.epochs.post_leaves.Given as goal

abbrev pub invariant-loop-house : goal.invariant-loop-house
invariant-loop-house l = LeavesRest l.fn.posted l.sender l.epoch l.leaving (drop l.house-index l.leaving) l.posted

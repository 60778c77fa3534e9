use Rattle.std.proofs.Common.{◌≤◌, ◌-◌, length}
use Rattle.compact_map.proofs.Ascending.{AscendTo}
use Rattle.compact_map.proofs.sorted_vec.ascends.Given as goal

abbrev pub invariant-loop-at : goal.invariant-loop-at
invariant-loop-at g l = (1 ≤ l.at) × AscendTo g.K.Ord.cmp l.entries l.at

abbrev pub decreases-loop-at : goal.decreases-loop-at
decreases-loop-at g l = length l.entries - l.at

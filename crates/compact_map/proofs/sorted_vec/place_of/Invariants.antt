use Rattle.std.proofs.Common.{◌-◌, length}
use Rattle.std_collections.proofs.Seek.{AboveFirst}
use Rattle.compact_map.proofs.sorted_vec.place_of.Given as goal

abbrev pub invariant-loop-at : goal.invariant-loop-at
invariant-loop-at g l = AboveFirst (g.K.Ord.cmp l.key) l.entries l.at

abbrev pub decreases-loop-at : goal.decreases-loop-at
decreases-loop-at g l = length l.entries - l.at

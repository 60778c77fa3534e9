use Rattle.std.proofs.Common.{◌-◌, vec_len}
use Rattle.std.specs.Map.Calls.{CalledAtPair, TakesPair}
use Rattle.compact_map.proofs.Sifting.{Sifting}
use Rattle.compact_map.proofs.sorted_vec.SortedVec.retain.Given as goal

abbrev pub invariant-loop-at : goal.invariant-loop-at
invariant-loop-at g l = Sifting (CalledAtPair g.F.FnMut) (TakesPair g.F.FnMut) l.fn.f l.fn.self l.f l.self-inside.entries.items l.at

abbrev pub decreases-loop-at : goal.decreases-loop-at
decreases-loop-at g l = vec_len l.self-inside.entries - l.at

use Rattle.compact_map.proofs.Ascending.{none_ordered}
use Rattle.compact_map.proofs.sorted_vec.SortedVec.new.Goals as goal

pub invariant_of-result : goal.invariant_of-result
invariant_of-result g c = none_ordered g.K.Ord.cmp c.new.result.items c.new.ensures.items

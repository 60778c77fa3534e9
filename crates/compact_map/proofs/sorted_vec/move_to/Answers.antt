use Rattle.compact_map.proofs.Ascending.{moved_first}
use Rattle.compact_map.proofs.sorted_vec.move_to.Goals as goal

pub loop-key-preserved-in-Ok : goal.loop-key-preserved-in-Ok
loop-key-preserved-in-Ok g c = (
  moved_first g.K.Ord.cmp (c.in-Some.key, c.in-Some.value) c.loop-key.entries.items c.pop.new.self.items c.loop-key.tree.entries
      c.insert.new.self.entries _ c.in-Some.ensures.items c.in-Ok.ensures.entries c.loop-key.invariant.0 c.requires,
  rw c.pop.ensures.capacity c.loop-key.invariant.1,
)

pub loop-key-preserved-in-Ok-2 : goal.loop-key-preserved-in-Ok-2
loop-key-preserved-in-Ok-2 g c = (
  moved_first g.K.Ord.cmp (c.in-Some.key, c.in-Some.value) c.loop-key.entries.items c.pop.new.self.items c.loop-key.tree.entries
      c.insert.new.self.entries _ c.in-Some.ensures.items c.in-Ok.ensures.entries c.loop-key.invariant.0 c.requires,
  rw c.pop.ensures.capacity c.loop-key.invariant.1,
)

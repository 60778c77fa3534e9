use Rattle.std.proofs.Common.{arith}
use Rattle.compact_map.proofs.Found.{in_range, value_there, removed, removed_ordered, removed_updates, none_there, none_removed, none_removed_updates}
use Rattle.compact_map.proofs.sorted_vec.SortedVec.remove.Goals as goal

pub remove-value-requires : goal.remove-value-requires
remove-value-requires g c =
    let lt = in_range g.met.K.Ord.total c.args.key.now c.self.inside.entries.items c.in-Ok.at (rw c.self.view_is c.in-Ok.ensures.place) in
    omega (arith, lt, c.self.inside.entries.ok.0)

pub invariant_of-self : goal.invariant_of-self
invariant_of-self g c = rw c.remove-value.ensures.items
    (removed_ordered g.met.K.Ord.total c.args.key.now c.self.inside.entries.items c.in-Ok.at (rw c.self.view_is c.in-Ok.ensures.place) c.self.invariant)

pub returns-in-Ok : goal.returns-in-Ok
returns-in-Ok g c =
    record {
      value = rw (← c.self.view_is) (value_there g.met.K.Ord.total c.args.key.now c.self.inside.entries.items c.in-Ok.at (rw c.self.view_is c.in-Ok.ensures.place) c.remove-value.result c.remove-value.ensures.value);
      updates = rw (c.remove-value.ensures.items, ← c.self.view_is) (removed_updates g.met.K.Ord.total c.args.key.now c.self.inside.entries.items c.in-Ok.at (rw c.self.view_is c.in-Ok.ensures.place) c.self.invariant);
      entries = rw (c.remove-value.ensures.items, ← c.self.view_is) (removed g.met.K.Ord.total c.args.key.now c.self.inside.entries.items c.in-Ok.at (rw c.self.view_is c.in-Ok.ensures.place));
      ordered = rw c.remove-value.ensures.items (removed_ordered g.met.K.Ord.total c.args.key.now c.self.inside.entries.items c.in-Ok.at (rw c.self.view_is c.in-Ok.ensures.place) c.self.invariant);
    }

pub returns-in-Err : goal.returns-in-Err
returns-in-Err g c =
    let o = g.met.K.Ord.total in
    let k = c.args.key.now in
    let es = c.args.self.now in
    record {
      value = none_there o k es c.find.ensures.ordered c.in-Err.field-0 c.in-Err.ensures.place;
      updates = none_removed_updates o k es c.find.ensures.ordered c.in-Err.field-0 c.in-Err.ensures.place;
      entries = none_removed o k es c.find.ensures.ordered c.in-Err.field-0 c.in-Err.ensures.place;
      ordered = c.find.ensures.ordered;
    }

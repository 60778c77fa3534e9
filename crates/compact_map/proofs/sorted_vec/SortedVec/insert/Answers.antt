use Rattle.std.proofs.Common.{arith, sym, rules}
use Rattle.compact_map.proofs.Found.{in_range, value_there, put_over, put_over_ordered, put_over_updates}
use Rattle.compact_map.proofs.Found.{on_err, gap_in_range, none_there, put_in, put_in_ordered, put_in_updates}
use Rattle.compact_map.proofs.sorted_vec.SortedVec.insert.Goals as goal

-- the key is there, and its value is replaced
pub index_mut-entry-requires : goal.index_mut-entry-requires
index_mut-entry-requires g c =
    let lt = in_range g.met.K.Ord.total c.args.key c.self.inside.entries.items c.in-Ok.at (rw c.self.view_is c.in-Ok.ensures.place) in
    omega (arith, lt, c.self.inside.entries.ok.0)

pub invariant_of-self : goal.invariant_of-self
invariant_of-self g c =
    put_over_ordered g.met.K.Ord.total c.args.key c.self.inside.entries.items c.in-Ok.at (rw c.self.view_is c.in-Ok.ensures.place) c.self.invariant
    c.index_mut-entry.result.now c.index_mut-entry.ensures.value c.replace.new.dest

pub returns-in-Ok-clause-inserts : goal.returns-in-Ok-clause-inserts
returns-in-Ok-clause-inserts g c = record {
  old = rw (c.replace.ensures.value, ← c.self.view_is)
      (value_there g.met.K.Ord.total c.args.key c.self.inside.entries.items c.in-Ok.at (rw c.self.view_is c.in-Ok.ensures.place)
      c.index_mut-entry.result.now c.index_mut-entry.ensures.value);
  updates = rw (c.replace.ensures.after, ← c.self.view_is)
      (put_over_updates g.met.K.Ord.total c.args.key c.self.inside.entries.items c.in-Ok.at (rw c.self.view_is c.in-Ok.ensures.place) c.self.invariant
      c.index_mut-entry.result.now c.index_mut-entry.ensures.value c.args.value);
  entries = rw (c.replace.ensures.after, ← c.self.view_is)
      (put_over g.met.K.Ord.total c.args.key c.self.inside.entries.items c.in-Ok.at (rw c.self.view_is c.in-Ok.ensures.place)
      c.index_mut-entry.result.now c.index_mut-entry.ensures.value c.args.value);
  absent = tt;
  err = tt;
  ordered = put_over_ordered g.met.K.Ord.total c.args.key c.self.inside.entries.items c.in-Ok.at (rw c.self.view_is c.in-Ok.ensures.place) c.self.invariant
      c.index_mut-entry.result.now c.index_mut-entry.ensures.value c.replace.new.dest;
  was_ordered = c.place.ensures.ordered;
}

-- the key is new, and its entry goes where the search ended
pub insert-requires : goal.insert-requires
insert-requires g c =
    let le = gap_in_range g.met.K.Ord.total c.args.key c.self.inside.entries.items c.self.invariant c.in-Err.at (rw c.self.view_is c.in-Err.ensures.place) in
    omega (arith, le, c.self.inside.entries.ok.0)

pub returns-in_err-insert-in-Err-clause-inserts : goal.returns-in_err-insert-in-Err-clause-inserts
returns-in_err-insert-in-Err-clause-inserts g c = record {
  old = search rules;
  updates = search rules;
  entries = search rules;
  absent = on_err c.from_residual.result
      (sym (none_there g.met.K.Ord.total c.args.key c.args.self.now c.place.ensures.ordered c.in-Err.at c.in-Err.ensures.place));
  err = search rules;
  ordered = search rules;
  was_ordered = c.place.ensures.ordered;
}

pub invariant_of-self-in-Err : goal.invariant_of-self-in-Err
invariant_of-self-in-Err g c = rw (c.in_ok-insert-in-Err.ensures.items, c.make_room.ensures.items)
    (put_in_ordered g.met.K.Ord.total c.args.key c.self.inside.entries.items c.self.invariant c.in-Err.at (rw c.self.view_is c.in-Err.ensures.place)
    c.args.value)

pub returns-in_ok-insert-in-Err-clause-inserts : goal.returns-in_ok-insert-in-Err-clause-inserts
returns-in_ok-insert-in-Err-clause-inserts g c = record {
  old = none_there g.met.K.Ord.total c.args.key c.args.self.now c.place.ensures.ordered c.in-Err.at c.in-Err.ensures.place;
  updates = rw (c.in_ok-insert-in-Err.ensures.items, c.make_room.ensures.items, ← c.self.view_is)
      (put_in_updates g.met.K.Ord.total c.args.key c.self.inside.entries.items c.self.invariant c.in-Err.at (rw c.self.view_is c.in-Err.ensures.place) c.args.value);
  entries = rw (c.in_ok-insert-in-Err.ensures.items, c.make_room.ensures.items, ← c.self.view_is)
      (put_in g.met.K.Ord.total c.args.key c.self.inside.entries.items c.self.invariant c.in-Err.at (rw c.self.view_is c.in-Err.ensures.place) c.args.value);
  absent = tt;
  err = tt;
  ordered = rw (c.in_ok-insert-in-Err.ensures.items, c.make_room.ensures.items)
      (put_in_ordered g.met.K.Ord.total c.args.key c.self.inside.entries.items c.self.invariant c.in-Err.at (rw c.self.view_is c.in-Err.ensures.place) c.args.value);
  was_ordered = c.place.ensures.ordered;
}

use Rattle.std.proofs.Common.{arith}
use Rattle.compact_map.proofs.Found.{in_range, value_there, none_there}
use Rattle.compact_map.proofs.sorted_vec.SortedVec.get.Goals as goal

pub index-requires : goal.index-requires
index-requires g c =
    let lt = in_range g.met.K.Ord.total c.args.key.now c.self.inside.entries.items c.in-Ok.at (rw c.self.view_is c.in-Ok.ensures.place) in
    omega (arith, lt, c.self.inside.entries.ok.0)

pub returns-in-Ok : goal.returns-in-Ok
returns-in-Ok g c = rw (← c.self.view_is)
    (value_there g.met.K.Ord.total c.args.key.now c.self.inside.entries.items c.in-Ok.at (rw c.self.view_is c.in-Ok.ensures.place)
    c.index.result.now c.index.ensures)

pub returns-in-Err : goal.returns-in-Err
returns-in-Err g c = none_there g.met.K.Ord.total c.args.key.now c.args.self.now c.find.ensures.ordered c.in-Err.field-0 c.in-Err.ensures.place

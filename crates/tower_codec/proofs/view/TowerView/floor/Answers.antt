use Rattle.std.proofs.Common.{sym, arith}
use Rattle.std.proofs.lemmas.Option.{slice_get_past}
use Rattle.tower_codec.specs.TowerReading.{known_floor, after_known_floor, known_floors}
use Rattle.tower_codec.proofs.Known.{floor_ahead, found_ahead, length-known_floors}
use Rattle.tower_codec.proofs.view.TowerView.floor.Goals as goal

pub take_floor-requires : goal.take_floor-requires
take_floor-requires c =
    let x = c.walk-rest.result.now in
    (known_floor x, after_known_floor x, (floor_ahead c.self.inside.count c.args.n x (omega arith) c.walk-rest.ensures.known).0)

pub returns-then-n-from : goal.returns-then-n-from
returns-then-n-from c =
    let x = c.walk-rest.result.now in
    let all = known_floors c.self.inside.count c.self.inside.body.now in
    rw (c.take_floor.ensures.floor, ← c.self.view_is) (found_ahead c.self.inside.count c.args.n x all (omega arith) c.walk-rest.ensures.floors)

pub returns-else-n-from : goal.returns-else-n-from
returns-else-n-from c =
    let all = known_floors c.self.inside.count c.self.inside.body.now in
    rw (← c.self.view_is) (sym (slice_get_past all c.args.n (omega (arith, length-known_floors c.self.inside.count c.self.inside.body.now))))

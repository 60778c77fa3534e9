use Rattle.tower_codec.specs.TowerReading.{known_floor, after_known_floor, known_floors}
use Rattle.tower_codec.proofs.Known.{floor_ahead, walk_on}
use Rattle.tower_codec.proofs.view.walk.Goals as goal
use Rattle.std.proofs.Common.{arith}

pub take_floor-requires : goal.take_floor-requires
take_floor-requires c =
    let x = c.loop.rest.now in
    (known_floor x, after_known_floor x, (floor_ahead c.args.count c.loop.counter x (omega arith) c.loop.invariant.known).0)

pub loop-preserved : goal.loop-preserved
loop-preserved c =
    rw c.take_floor.ensures.rest (walk_on c.args.count c.loop.counter c.loop.rest.now (known_floors c.args.count c.args.octets.now)
    (omega arith) c.loop.invariant)

use Rattle.std.proofs.Common.{sym, arith}
use Rattle.tower_codec.specs.FloorView.{floor_of}
use Rattle.tower_codec.proofs.RpcLaws.{five_floors, tower_of_floors}
use Rattle.tower_codec.proofs.rpc.RpcTower.from_floors.Goals as goal

pub returns-clause-found : goal.returns-clause-found
returns-clause-found c =
    let first = floor_of c.in_ok-first.first in
    let second = floor_of c.in_ok-second.second in
    let third = floor_of c.in_ok-third.third in
    let fourth = floor_of c.in_ok-fourth.fourth in
    let fifth = floor_of c.in_ok-fifth.fifth in
    let five = five_floors c.args.view.now first second third fourth fifth (omega arith)
    (sym c.in_ok-first.ensures) (sym c.in_ok-second.ensures) (sym c.in_ok-third.ensures) (sym c.in_ok-fourth.ensures) (sym c.in_ok-fifth.ensures) in
    tower_of_floors c.args.view.now first second third fourth fifth _ five c.in_ok-interface.ensures.found c.in_ok-transfer.ensures.found
    c.in_ok-protseq.ensures.found c.in_ok-port.ensures.found c.in_ok-address.ensures.found

use Rattle.std.proofs.Common.{arith, refl}
use Rattle.cds_cell.proofs.Houses.{house_there, place_within}
use Rattle.cds_cell.proofs.cell.Cell.house.Goals as goal

pub index-requires : goal.index-requires
index-requires c =
    let less = place_within c.args.self.now.houses.items c.args.house.0 c.in_ok-at.at c.in_ok-at.ensures in
    let long = c.args.self.now.houses.ok.0 in
    omega (arith, less, long)

pub returns : goal.returns
returns c = rw (house_there c.args.self.now.houses.items c.args.house.0 c.in_ok-at.at c.index.result.now c.in_ok-at.ensures c.index.ensures).0 refl

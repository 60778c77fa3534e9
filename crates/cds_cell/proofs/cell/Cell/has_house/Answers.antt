use Rattle.std.proofs.Common.{◌∙◌, ap}
use Rattle.cell_model.specs.Sets.{has}
use Rattle.cds_cell.proofs.Houses.{found_is, has_number}
use Rattle.cds_cell.proofs.cell.Cell.has_house.Goals as goal

pub returns-clause-found : goal.returns-clause-found
returns-clause-found c = c.is_some.ensures ∙ found_is c.args.self.now.houses.items c.args.house.0 c.position.result c.position.ensures

pub returns-clause-model : goal.returns-clause-model
returns-clause-model c g s =
    let hs = c.args.self.now.houses.items in
    let x = c.args.house.0 in
    let found = c.is_some.ensures ∙ found_is hs x c.position.result c.position.ensures in
    cc (found, ap (has x) s.stands.made ∙ has_number hs x)

use Rattle.cds_cell.proofs.Houses.{place_within}
use Rattle.cds_cell.proofs.cell.Cell.accept_all.Goals as goal

pub accept_each-accepted-requires-clause-house : goal.accept_each-accepted-requires-clause-house
accept_each-accepted-requires-clause-house c = place_within c.args.self.now.houses.items c.args.house.0 c.in-Some.at c.in-Some.ensures

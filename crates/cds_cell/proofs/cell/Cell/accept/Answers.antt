use Rattle.directory.specs.Updates.{change_of}
use Rattle.cds_cell.proofs.ActSteps.{accept_placed}
use Rattle.cds_cell.proofs.Houses.{place_within}
use Rattle.cds_cell.proofs.cell.Cell.accept.Goals as goal

pub returns-in_default-clause-step : goal.returns-in_default-clause-step
returns-in_default-clause-step c g s none =
    absurd (accept_placed c.args.self.now c.args.self.now g c.args.house.0 c.args.dir.0 (change_of c.args.update.now) s none c.in_default.ensures)

pub accept_placed-requires-clause-house : goal.accept_placed-requires-clause-house
accept_placed-requires-clause-house c = place_within c.args.self.now.houses.items c.args.house.0 c.in-Some.at c.in-Some.ensures

pub returns-clause-step : goal.returns-clause-step
returns-clause-step c g s none = c.accept_placed.ensures.step g c.args.house.0 s c.in-Some.ensures none

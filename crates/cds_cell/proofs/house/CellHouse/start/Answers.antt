use Rattle.std.proofs.Common.{sym, ◌∙◌}
use Rattle.cds_cell.proofs.HouseCalls.{started_stands}
use Rattle.cds_cell.proofs.house.CellHouse.start.Goals as goal

pub returns-in-Some-clause-step : goal.returns-in-Some-clause-step
returns-in-Some-clause-step c now stands down =
    started_stands c.args.self.now c.in-Down.image c.list.result.now c.in-Some.home now c.in-Down.is stands c.list.ensures
    (sym c.in-Some.is ∙ c.in_ok-home.ensures)

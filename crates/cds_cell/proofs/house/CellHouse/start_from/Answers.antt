use Rattle.std.proofs.Common.{sym, ap, ◌∙◌}
use Rattle.cds_cell.specs.PrivateHouses.{octets_in}
use Rattle.cds_cell.proofs.HouseCalls.{started_stands}
use Rattle.cds_cell.proofs.house.CellHouse.start_from.Goals as goal

pub returns-in-Some-clause-step : goal.returns-in-Some-clause-step
returns-in-Some-clause-step c now stands down same =
    started_stands c.args.self.now c.in-Down.field-0 c.args.octets.now c.in-Some.home now c.in-Down.is stands (same ∙ ap octets_in c.in-Down.is)
    (sym c.in-Some.is ∙ c.in_ok-home.ensures)

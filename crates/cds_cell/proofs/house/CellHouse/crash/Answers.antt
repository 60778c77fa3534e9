use Rattle.std.proofs.Common.{◌∙◌, ap}
use Rattle.clearinghouse.specs.HouseImages.{start_of_octets}
use Rattle.clearinghouse.proofs.Restarting.{crash_stands, restarted_lawful}
use Rattle.cds_cell.proofs.HouseCalls.{crashed_stands, stands_up}
use Rattle.cds_cell.proofs.KeptImages.{keeps_image}
use Rattle.cds_cell.proofs.house.CellHouse.crash.Goals as goal

pub returns-in_ok-image-clause-step : goal.returns-in_ok-image-clause-step
returns-in_ok-image-clause-step c = λ now stands up.
    let home = c.in-Up.home in
    let here = stands_up c.args.self.now home now c.in-Up.is stands in
    let starts = ap start_of_octets c.of.ensures ∙ c.in_ok-image.ensures.starts here.lawful in
    crashed_stands c.args.self.now home c.of.result now c.in-Up.is stands
    (keeps_image home c.of.result here.lawful (c.of.ensures ∙ c.in_ok-image.ensures.octets) starts) (crash_stands home now here.stands)
    (restarted_lawful home here.lawful)

use Rattle.std.proofs.Common.{Some}
use Rattle.cds_stamps.specs.Members.{members_of}
use Rattle.cell_model.specs.Cells as model
use Rattle.cell_model.specs.Turns.{found_directory, first_replica}
use Rattle.clearinghouse.specs.HouseLetters.{posts_at}
use Rattle.cds_cell.proofs.HouseCalls.{stands_up, turned_call}
use Rattle.cds_cell.proofs.KeptNodes.{holding_same}
use Rattle.cds_cell.proofs.house.CellHouse.found.Goals as goal

pub returns-in_ok-found-in-Up-clause-step : goal.returns-in_ok-found-in-Up-clause-step
returns-in_ok-found-in-Up-clause-step c = λ now stands up absent master.
    let here = stands_up c.args.self.now c.in-Up.home now c.in-Up.is stands in
    let d = c.args.dir.0 in
    let ms = members_of c.args.members.now in
    turned_call c.args.self.now c.in-Up.home c.found.new.self c.in-Up.is now stands up c.found.result c.in_ok-found-in-Up.field-0
    (posts_at c.found.new.self c.args.dir (Some c.in_ok-found-in-Up.field-0)) (λ h. found_directory h now d ms) c.in_ok-found-in-Up.was c.found.ensures.call
    c.found.ensures.kept (holding_same now d now.floor (model.Held (first_replica ms))) (c.in_ok-found-in-Up.ensures.step now here.stands)

use Rattle.std.specs.FinMap.{get}
use Rattle.std.specs.Result.{result_err}
use Rattle.cds_stamps.specs.Members.{members_of}
use Rattle.cell_model.specs.Turns as turns
use Rattle.house_directory.specs.HouseMessages.{numbers_of}
use Rattle.clearinghouse.specs.HouseLetters.{epoch_posts_at}
use Rattle.house_directory.specs.DirectorySteps.{IsEpochAnswer}
use Rattle.cds_cell.proofs.HouseCalls.{asks_call, later_epoch, stands_up}
use Rattle.cds_cell.proofs.KeptNodes.{epoch_keeps}
use Rattle.cds_cell.proofs.house.CellHouse.enter_epoch.Goals as goal

pub returns-in-Up-clause-step : goal.returns-in-Up-clause-step
returns-in-Up-clause-step c = λ now leaving stands up master new.
    let home = c.in-Up.home in
    let here = stands_up c.args.self.now home now c.in-Up.is stands in
    let d = c.args.dir.0 in
    let k = c.args.epoch.0 in
    let ms = members_of c.args.members.now in
    asks_call c.args.self.now home c.enter_epoch.new.self c.in-Up.is now stands up c.enter_epoch.result (λ e. IsEpochAnswer k (result_err e))
    (λ e. epoch_posts_at c.enter_epoch.new.self c.args.dir c.args.epoch leaving (result_err e)) (λ h. turns.new_epoch h now d k ms (numbers_of leaving))
    c.enter_epoch.ensures.call c.enter_epoch.ensures.kept (epoch_keeps now c.args.self.now.house.0 d k ms (numbers_of leaving))
    (c.enter_epoch.ensures.step now leaving here.stands
    (later_epoch home.house.0 home.floor.time k (get home.dirs c.args.dir) (now.slots d) (here.stands.slots d) new))

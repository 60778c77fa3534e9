use Rattle.std.specs.Result.{result_err}
use Rattle.cds_stamps.specs.Members.{members_of}
use Rattle.cell_model.specs.Turns.{new_epoch}
use Rattle.house_directory.specs.HouseMessages.{numbers_of}
use Rattle.clearinghouse.specs.HouseLetters.{epoch_posts_at}
use Rattle.house_directory.specs.DirectorySteps.{IsEpochAnswer}
use Rattle.clearinghouse.specs.HouseSteps.{IsStep}
use Rattle.clearinghouse.proofs.Entering.{enters_lawful, enters_steps}
use Rattle.clearinghouse.proofs.Houses.{heed_lawful, heed_ok}
use Rattle.clearinghouse.proofs.house.Clearinghouse.enter_epoch.Goals as goal

pub returns-clause-kept : goal.returns-clause-kept
returns-clause-kept c = λ lawful.
    heed_lawful c.enter_at-done.new.self c.heed.new.self c.enter_at-done.result c.heed.result c.heed.ensures.result c.heed.ensures.heeds
    (enters_lawful c.args.self.now c.enter_at-done.new.self c.args.dir c.args.epoch c.args.members.now c.enter_at-done.ensures.who c.enter_at-done.result
    c.enter_at-done.ensures.refused c.enter_at-done.ensures.held c.enter_at-done.ensures.err lawful)

pub returns-clause-step : goal.returns-clause-step
returns-clause-step c = λ now leaving stands later.
    heed_ok c.enter_at-done.new.self c.heed.new.self c.enter_at-done.result c.heed.result c.heed.ensures.result c.heed.ensures.heeds
    (λ e new. IsStep (IsEpochAnswer c.args.epoch.0 (result_err e))
    (new_epoch c.args.self.now.house.0 now c.args.dir.0 c.args.epoch.0 (members_of c.args.members.now) (numbers_of leaving)) c.args.self.now new
    (epoch_posts_at new c.args.dir c.args.epoch leaving (result_err e)))
    (enters_steps c.args.self.now c.enter_at-done.new.self c.args.dir c.args.epoch c.args.members.now c.enter_at-done.ensures.who now leaving
    c.enter_at-done.result c.enter_at-done.ensures.answer c.enter_at-done.ensures.refused c.enter_at-done.ensures.held stands later)

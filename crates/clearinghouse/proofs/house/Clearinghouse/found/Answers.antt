use Rattle.cell_model.specs.Turns.{found_directory}
use Rattle.std.proofs.Common.{Some}
use Rattle.cds_stamps.specs.Members.{members_of}
use Rattle.clearinghouse.specs.HouseLetters.{posts_at}
use Rattle.clearinghouse.specs.HouseSteps.{IsTurn}
use Rattle.clearinghouse.proofs.Entering.{found_lawful, found_step}
use Rattle.clearinghouse.proofs.Houses.{heed_lawful, heed_ok}
use Rattle.clearinghouse.proofs.house.Clearinghouse.found.Goals as goal

pub returns-clause-kept : goal.returns-clause-kept
returns-clause-kept c = λ lawful.
    heed_lawful c.insert_first-done.new.self c.heed.new.self c.insert_first-done.result c.heed.result c.heed.ensures.result c.heed.ensures.heeds
    (found_lawful c.args.self.now c.args.dir c.args.members.now c.insert_first-done.new.self c.insert_first-done.result c.insert_first-done.ensures.held
    c.insert_first-done.ensures.err lawful)

pub returns-clause-step : goal.returns-clause-step
returns-clause-step c = λ now stands.
    heed_ok c.insert_first-done.new.self c.heed.new.self c.insert_first-done.result c.heed.result c.heed.ensures.result c.heed.ensures.heeds
    (λ o new. IsTurn (found_directory c.args.self.now.house.0 now c.args.dir.0 (members_of c.args.members.now)) new (posts_at new c.args.dir (Some o)))
    (found_step c.args.self.now c.args.dir c.args.members.now c.insert_first-done.new.self now c.insert_first-done.result c.insert_first-done.ensures.join
    c.insert_first-done.ensures.held stands)

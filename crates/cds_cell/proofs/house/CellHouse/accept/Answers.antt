use Rattle.directory.specs.Updates.{change_of}
use Rattle.cell_model.specs.Turns as turns
use Rattle.clearinghouse.specs.HouseLetters.{posts_at}
use Rattle.house_directory.specs.DirectorySteps.{IsStampAnswer}
use Rattle.cds_cell.proofs.HouseCalls.{asks_call, stands_up}
use Rattle.cds_cell.proofs.KeptNodes.{accept_keeps}
use Rattle.cds_cell.proofs.house.CellHouse.accept.Goals as goal

pub returns-in-Up-clause-step : goal.returns-in-Up-clause-step
returns-in-Up-clause-step c = λ now stands up.
    asks_call c.args.self.now c.in-Up.home c.accept_update.new.self c.in-Up.is now stands up c.accept_update.result (λ turn. IsStampAnswer turn.answer)
    (λ turn. posts_at c.accept_update.new.self c.args.dir turn.outgoing) (λ h. turns.accept h now c.args.dir.0 (change_of c.args.update.now))
    c.accept_update.ensures.call c.accept_update.ensures.kept (accept_keeps now c.args.self.now.house.0 c.args.dir.0 (change_of c.args.update.now))
    (c.accept_update.ensures.step now (stands_up c.args.self.now c.in-Up.home now c.in-Up.is stands).stands stands.clock)

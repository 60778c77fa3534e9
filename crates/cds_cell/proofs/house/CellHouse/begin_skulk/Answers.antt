use Rattle.cell_model.specs.Turns as turns
use Rattle.clearinghouse.specs.HouseLetters.{posts_at}
use Rattle.house_directory.specs.DirectorySteps.{IsBegunAnswer}
use Rattle.cds_cell.proofs.HouseCalls.{asks_call, stands_up}
use Rattle.cds_cell.proofs.KeptNodes.{skulk_keeps}
use Rattle.cds_cell.proofs.house.CellHouse.begin_skulk.Goals as goal

pub returns-in-Up-clause-step : goal.returns-in-Up-clause-step
returns-in-Up-clause-step c = λ now stands up.
    asks_call c.args.self.now c.in-Up.home c.begin_skulk.new.self c.in-Up.is now stands up c.begin_skulk.result (λ turn. IsBegunAnswer turn.answer)
    (λ turn. posts_at c.begin_skulk.new.self c.args.dir turn.outgoing) (λ h. turns.skulk h now c.args.dir.0)
    c.begin_skulk.ensures.call c.begin_skulk.ensures.kept (skulk_keeps now c.args.self.now.house.0 c.args.dir.0)
    (c.begin_skulk.ensures.step now (stands_up c.args.self.now c.in-Up.home now c.in-Up.is stands).stands stands.clock)

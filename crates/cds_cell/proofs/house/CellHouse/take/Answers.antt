use Rattle.std.proofs.Common.{subst, sym}
use Rattle.cds_stamps.specs.declared.numbers.HouseNo.{HouseNo}
use Rattle.cell_model.specs.Turns as turns
use Rattle.house_directory.specs.HouseMessages.{StandsMessage}
use Rattle.clearinghouse.specs.HouseLetters.{posts_at}
use Rattle.house_directory.specs.DirectorySteps.{IsTakeAnswer}
use Rattle.cds_cell.proofs.HouseCalls.{asks_call, stands_up}
use Rattle.cds_cell.proofs.KeptNodes.{take_keeps}
use Rattle.cds_cell.proofs.house.CellHouse.take.Goals as goal

pub returns-in-Up-clause-step : goal.returns-in-Up-clause-step
returns-in-Up-clause-step c = λ now m stands up says valid can.
    let here = stands_up c.args.self.now c.in-Up.home now c.in-Up.is stands in
    asks_call c.args.self.now c.in-Up.home c.take_message.new.self c.in-Up.is now stands up c.take_message.result (λ turn. IsTakeAnswer turn.answer)
    (λ turn. posts_at c.take_message.new.self c.args.message.now.dir turn.outgoing) (λ h. turns.take now m)
    c.take_message.ensures.call (c.take_message.ensures.kept valid) (take_keeps now m)
    (c.take_message.ensures.step now m here.stands (subst (λ (x : HouseNo). StandsMessage x.0 c.args.message.now m) (sym here.number) says) can)

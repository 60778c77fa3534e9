use Rattle.cds_cell.proofs.ActSteps.{take_comes}
use Rattle.cds_cell.proofs.cell.Cell.take_message.Goals as goal

pub returns-clause-step : goal.returns-clause-step
returns-clause-step c g n s d =
    take_comes c.args.self.now c.take_at.new.self g n c.args.at d.it c.new-serials.result c.take_at.new.serials c.in_ok-taken.taken c.taken_in_script.result
    s d.there d.up d.place c.new-serials.ensures (c.in_ok-taken.ensures.acts (g.house d.it.receiver) d.it d.place d.stands d.valid)
    c.taken_in_script.ensures.answer

use Rattle.std.proofs.Common.{ap, ℕ, List}
use Rattle.cell_model.specs.Commands as command
use Rattle.cds_cell.proofs.Handing.{handed_on, meant}
use Rattle.cds_cell.specs.Scripted.{step_of}
use Rattle.cds_cell.proofs.cell.Cell.act.Goals as goal

pub returns-in-Repoint-clause-step : goal.returns-in-Repoint-clause-step
returns-in-Repoint-clause-step c g s none =
    let f : List ℕ → command.Command = λ hs. command.Repoint c.in-Repoint.house.0 c.in-Repoint.dir.0 c.in-Repoint.name c.in-Repoint.master.0 hs in
    meant _ _ c.repoint.result c.repoint.new.self g (ap step_of c.in-Repoint.is)
    (handed_on f c.list.result.now c.in-Repoint.others c.repoint.result c.repoint.new.self g c.list.ensures
    (c.repoint.ensures.step g s)) none

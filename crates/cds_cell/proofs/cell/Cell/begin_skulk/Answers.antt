use Rattle.cds_cell.proofs.ActSteps.{skulk_comes, skulk_placed}
use Rattle.cds_cell.proofs.Houses.{place_within}
use Rattle.cds_cell.proofs.cell.Cell.begin_skulk.Goals as goal

pub returns-in_default-clause-step : goal.returns-in_default-clause-step
returns-in_default-clause-step c g s none =
    absurd (skulk_placed c.args.self.now c.args.self.now g c.args.house.0 c.args.dir.0 s none c.in_default.ensures)

pub skulk_at-requires-clause-house : goal.skulk_at-requires-clause-house
skulk_at-requires-clause-house c = place_within c.args.self.now.houses.items c.args.house.0 c.in-Some.at c.in-Some.ensures

pub returns-clause-step : goal.returns-clause-step
returns-clause-step c g s none =
    skulk_comes c.args.self.now c.skulk_at.new.self g c.args.house.0 c.args.dir.0 s none c.in-Some.at c.new-serials.result c.skulk_at.new.serials
    c.in_ok-begun.begun c.begun_in_script.result c.in-Some.ensures c.new-serials.ensures (c.in_ok-begun.ensures.acts (g.house c.args.house.0))
    c.begun_in_script.ensures.answer

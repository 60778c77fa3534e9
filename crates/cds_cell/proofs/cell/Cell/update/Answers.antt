use Rattle.std.proofs.Common.{refl}
use Rattle.std.specs.Prelude.{None}
use Rattle.directory.specs.Updates.{change_of}
use Rattle.cell_model.specs.Commands as command
use Rattle.cell_model.specs.Steps.{first_refusal, refusals_of}
use Rattle.cds_cell.proofs.Houses.{place_within}
use Rattle.cds_cell.proofs.Outcomes.{acted_step, refused_step, unrefused}
use Rattle.cds_cell.proofs.cell.Cell.update.Goals as goal

pub accept_placed-requires-clause-house : goal.accept_placed-requires-clause-house
accept_placed-requires-clause-house c = place_within c.args.self.now.houses.items c.args.house.0 c.in-Ok.at c.in-Ok.ensures.place

pub returns-in-Ok-clause-step : goal.returns-in-Ok-clause-step
returns-in-Ok-clause-step c g s =
    let k = command.Accept c.args.house.0 c.args.dir.0 (change_of c.args.change.now) in
    let none = unrefused (first_refusal (refusals_of g k)) None (c.in-Ok.ensures.allowed g s) refl in
    acted_step c.accept_placed.new.self g k c.accept_placed.result s.reached none
    (c.accept_placed.ensures.step g c.args.house.0 s c.in-Ok.ensures.place none)

pub returns-in-Err-clause-step : goal.returns-in-Err-clause-step
returns-in-Err-clause-step c g s =
    let k = command.Accept c.args.house.0 c.args.dir.0 (change_of c.args.change.now) in
    refused_step c.args.self.now g k c.in-Err.refusal s (c.in-Err.ensures.allowed g s)

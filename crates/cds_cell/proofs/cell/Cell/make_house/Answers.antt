use Rattle.std.proofs.Common.{ap, inl, refl}
use Rattle.cell_model.specs.Commands as command
use Rattle.cell_model.specs.Steps.{is_taken, refusals_of}
use Rattle.cds_cell.specs.declared.house.HouseState.TheVariants as state
use Rattle.cds_cell.proofs.ActSteps.{passed}
use Rattle.cds_cell.proofs.MadeHouses.{made_comes}
use Rattle.cds_cell.proofs.cell.Cell.make_house.Goals as goal

pub returns-clause-step : goal.returns-clause-step
returns-clause-step c g s none =
    let x = c.args.house.0 in
    made_comes c.args.self.now _ g (record { house = c.args.house; node = c.args.node; clock = 0; state = state.Up c.new.result }) s
    (passed (refusals_of g (command.House x c.args.node)) (is_taken g x c.args.node) command.HouseExists (inl refl) none) refl
    (ap state.Up c.new.ensures) c.in_ok-push.ensures.items refl refl refl

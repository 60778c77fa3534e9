use Rattle.std.proofs.Common.{◌∙◌, ap, sym, None, Some}
use Rattle.cds_cell.specs.declared.house.HouseState.TheVariants as state
use Rattle.cds_cell.proofs.Refusals.{down_where}
use Rattle.cds_cell.proofs.cell.Cell.is_down.Goals as goal

pub returns-in-Some-Up-clause-model : goal.returns-in-Some-Up-clause-model
returns-in-Some-Up-clause-model c g s =
    down_where c.args.self.now g c.args.house.0 (Some (state.Up c.in-Some-Up.field-0-0)) s (ap Some (sym c.in-Some-Up.field-0-is) ∙ c.in-Some-Up.ensures)

pub returns-in-Some-Down-clause-model : goal.returns-in-Some-Down-clause-model
returns-in-Some-Down-clause-model c g s =
    down_where c.args.self.now g c.args.house.0 (Some (state.Down c.in-Some-Down.field-0-0)) s
    (ap Some (sym c.in-Some-Down.field-0-is) ∙ c.in-Some-Down.ensures)

pub returns-in-None-clause-model : goal.returns-in-None-clause-model
returns-in-None-clause-model c g s = down_where c.args.self.now g c.args.house.0 None s c.in-None.ensures

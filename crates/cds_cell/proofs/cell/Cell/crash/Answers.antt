use Rattle.std.proofs.Common.{refl, arith}
use Rattle.cell_model.specs.Turns.{crashed_house}
use Rattle.cds_cell.specs.declared.house.CellHouse.{CellHouse}
use Rattle.cds_cell.proofs.ActSteps.{crash_placed, crash_up}
use Rattle.cds_cell.proofs.HouseActs.{moved_alone}
use Rattle.cds_cell.proofs.Houses.{place_within}
use Rattle.cds_cell.proofs.cell.Cell.crash.Goals as goal

pub returns-in_default-clause-step : goal.returns-in_default-clause-step
returns-in_default-clause-step c g s none = absurd (crash_placed c.args.self.now g c.args.house.0 s none c.in_default.ensures)

pub index_mut-requires : goal.index_mut-requires
index_mut-requires c =
    let less = place_within c.args.self.now.houses.items c.args.house.0 c.in-Some.at c.in-Some.ensures in
    let long = c.args.self.now.houses.ok.0 in
    omega (arith, less, long)

pub returns-clause-step : goal.returns-clause-step
returns-clause-step c g s none =
    let h : CellHouse = c.index_mut.result.now in
    let x = c.args.house.0 in
    record {
      answer = refl;
      stands = moved_alone c.args.self.now _ g x c.in-Some.at h c.crash.new.self (crashed_house (g.house x)) s.stands c.in-Some.ensures
          c.index_mut.ensures.value
          refl refl refl refl c.crash.ensures.who (λ stands. c.in_ok-crash.ensures.step (g.house x) stands (crash_up g x none));
    }

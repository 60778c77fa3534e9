use Rattle.std.proofs.Common.{refl, arith, ◌∙◌, sym}
use Rattle.cell_model.specs.Turns.{started_house}
use Rattle.cds_cell.specs.declared.house.CellHouse.{CellHouse}
use Rattle.cds_cell.proofs.ActSteps.{start_placed, start_down}
use Rattle.cds_cell.proofs.HouseActs.{moved_alone}
use Rattle.cds_cell.proofs.Houses.{place_within}
use Rattle.cds_cell.proofs.RecordedLaws.{placed_octets}
use Rattle.cds_cell.proofs.cell.Cell.begin_from.Goals as goal

pub returns-in_default-clause-step : goal.returns-in_default-clause-step
returns-in_default-clause-step c g s is none = absurd (start_placed c.args.self.now g c.args.house.0 s none c.in_default.ensures)

pub index_mut-requires : goal.index_mut-requires
index_mut-requires c =
    let less = place_within c.args.self.now.houses.items c.args.house.0 c.in-Some.at c.in-Some.ensures in
    let long = c.args.self.now.houses.ok.0 in
    omega (arith, less, long)

pub returns-clause-step : goal.returns-clause-step
returns-clause-step c g s is none =
    let h : CellHouse = c.index_mut.result.now in
    let x = c.args.house.0 in
    let own = placed_octets c.args.self.now g x c.in-Some.at h s c.in-Some.ensures c.index_mut.ensures.value in
    record {
      answer = refl;
      stands = moved_alone c.args.self.now _ g x c.in-Some.at h c.start_from.new.self (started_house (g.house x)) s.stands c.in-Some.ensures
          c.index_mut.ensures.value
          refl refl refl refl c.start_from.ensures.who
          (λ stands. c.in_ok-start_from.ensures.step (g.house x) stands (start_down g x none) (is ∙ sym own));
    }

use Rattle.std.proofs.Common.{◌≤◌, arith, length, refl, ap, subst, sym}
use Rattle.std.specs.Prelude.{slice_set}
use Rattle.std.proofs.lemmas.Option.{slice_get_read}
use Rattle.cds_cell.specs.declared.house.CellHouse.{CellHouse}
use Rattle.cds_cell.specs.declared.house.HouseState.TheVariants as state
use Rattle.cds_cell.specs.ModelCells.{greatest_epoch}
use Rattle.cds_cell.proofs.Houses.{place_within}
use Rattle.cds_cell.proofs.Listings.{again_greatest}
use Rattle.cds_cell.proofs.TakenBack.{never_gone, taken_back}
use Rattle.cds_cell.proofs.cell.Cell.take_back.Goals as goal

pub returns-in_default-clause-epochs : goal.returns-in_default-clause-epochs
returns-in_default-clause-epochs c =
    subst (λ ls. greatest_epoch ls ≤ greatest_epoch c.args.self.now.directories.items) (sym c.list_again.ensures)
    (again_greatest c.args.mark.directories c.args.mark.replaced c.args.self.now.directories.items)

pub returns-in_default-clause-back : goal.returns-in_default-clause-back
returns-in_default-clause-back c before g k s is acts now =
    absurd (never_gone before c.args.self.now g k c.args.house.0 c.args.mark s is acts now c.in_default.ensures)

pub index_mut-requires : goal.index_mut-requires
index_mut-requires c =
    let less = place_within c.args.self.now.houses.items c.args.house.0 c.in-Some.at c.in-Some.ensures in
    let long = c.args.self.now.houses.ok.0 in
    omega (arith, less, long)

pub returns-clause-epochs : goal.returns-clause-epochs
returns-clause-epochs c =
    subst (λ ls. greatest_epoch ls ≤ greatest_epoch c.args.self.now.directories.items) (sym c.list_again.ensures)
    (again_greatest c.args.mark.directories c.args.mark.replaced c.args.self.now.directories.items)

pub returns-clause-back : goal.returns-clause-back
returns-clause-back c before g k s is acts now =
    let hs = c.args.self.now.houses.items in
    let at = c.in-Some.at in
    let h : CellHouse = c.index_mut.result.now in
    taken_back before c.args.self.now _ g k c.args.house.0 c.args.mark s is acts now at h c.in-Some.ensures
    (slice_get_read hs (length hs) at h refl (place_within hs c.args.house.0 at c.in-Some.ensures) c.index_mut.ensures.value)
    (ap (λ octets. slice_set hs at (record h { state = state.Down octets })) c.of.ensures) c.list_again.ensures c.take_back.ensures refl

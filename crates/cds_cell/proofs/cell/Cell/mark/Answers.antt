use Rattle.std.proofs.Common.{◌∙◌, arith, subst, sym}
use Rattle.cds_cell.specs.declared.house.CellHouse.{CellHouse}
use Rattle.cds_cell.specs.Marks.{IsImageAt}
use Rattle.cds_cell.proofs.Houses.{house_there, place_within}
use Rattle.cds_cell.proofs.RecordedLaws.{image_octets_in, placed_octets}
use Rattle.cds_cell.proofs.cell.Cell.mark.Goals as goal

pub index-requires : goal.index-requires
index-requires c =
    let less = place_within c.args.self.now.houses.items c.args.house.0 c.in-Some.at c.in-Some.ensures in
    let long = c.args.self.now.houses.ok.0 in
    omega (arith, less, long)

pub returns-clause-mark : goal.returns-clause-mark
returns-clause-mark c =
    let h : CellHouse = c.index.result.now in
    let there = house_there c.args.self.now.houses.items c.args.house.0 c.in-Some.at h c.in-Some.ensures c.index.ensures in
    record {
      image = subst (IsImageAt c.in_ok-image.image.items) (sym there.0) c.in_ok-image.ensures;
      posted = c.posted.ensures;
      directories = c.len.ensures ∙ c.args.self.now.directories.ok.0;
      replaced = c.in_ok-replaced.ensures;
    }

pub returns-clause-image : goal.returns-clause-image
returns-clause-image c g s =
    let h : CellHouse = c.index.result.now in
    image_octets_in c.in_ok-image.image.items h.state c.in_ok-image.ensures
    ∙ placed_octets c.args.self.now g c.args.house.0 c.in-Some.at h s c.in-Some.ensures c.index.ensures

use Rattle.std.proofs.Common.{◌∙◌, subst}
use Rattle.cds_cell.specs.ModelCells.{StandsListing}
use Rattle.cds_cell.proofs.Refusals.{directory_at, read_there}
use Rattle.cds_cell.proofs.cell.Cell.listing.Goals as goal

pub returns-in-Some : goal.returns-in-Some
returns-in-Some c g s =
    let l = c.index-listing.result.now in
    let there = read_there c.args.self.now.directories.items c.in-Some.at l c.in-Some.ensures.1 c.index-listing.ensures in
    let stands = subst (λ o. StandsListing o g c.args.dir.0) (directory_at c.args.self.now.directories.items c.args.dir.0 c.in-Some.at c.in-Some.ensures.0 ∙ there)
    (s.stands.directories c.args.dir.0) in
    record { some = stands.0; top = stands.1; present = stands.2 }

pub returns-in-None : goal.returns-in-None
returns-in-None c g s = subst (λ o. StandsListing o g c.args.dir.0) c.in-None.ensures (s.stands.directories c.args.dir.0)

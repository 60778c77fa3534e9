use Rattle.std.proofs.Common.{◌∙◌, Some, ap, sym}
use Rattle.cds_cell.specs.declared.console.Listing.{Listing}
use Rattle.cds_cell.proofs.Refusals.{read_there}
use Rattle.cds_cell.proofs.cell.Cell.listing_of.Goals as goal

pub returns : goal.returns
returns c =
    let l : Listing = c.index-listing.result.now in
    let there = read_there c.args.self.now.directories.items c.in-Some.place l c.in-Some.ensures.1 c.index-listing.ensures in
    (c.in-Some.ensures.0, there ∙ ap (λ ms. Some (record { epoch = l.epoch; members = ms })) (sym c.in_ok-members.ensures))

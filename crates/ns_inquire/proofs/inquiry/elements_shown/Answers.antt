use Rattle.std.proofs.Common.{◌≡◌, ◌∙◌, rules}
use Rattle.std.specs.List.{filter_map}
use Rattle.attr_sets.specs.AttributeCells.{cell_values}
use Rattle.ns_inquire.specs.Inquiries.{picked_in}
use Rattle.ns_inquire.proofs.Picks.{picked_in_cell}
use Rattle.ns_inquire.proofs.inquiry.elements_shown.Goals as goal

pub returns : goal.returns
returns c =
    let all : c.loop-value.found.items ≡ filter_map (picked_in c.args.inquiry.now) (cell_values c.args.cell.now) = search rules in
    all ∙ picked_in_cell c.args.inquiry.now c.args.cell.now

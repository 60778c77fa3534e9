use Rattle.std.proofs.Common.{◌∙◌, ap, sym}
use Rattle.std.specs.Prelude.{is_some}
use Rattle.cds_stamps.specs.Members.{is_listed, members_of}
use Rattle.cds_cell.proofs.Refusals.{listed_where, members_where, read_there, unlisted_where}
use Rattle.cds_cell.proofs.cell.Cell.is_listed.Goals as goal

pub returns-in-Some : goal.returns-in-Some
returns-in-Some c g s =
    let l = c.index.result.now in
    let there = read_there c.args.self.now.directories.items c.in-Some.at l c.in-Some.ensures.1 c.index.ensures in
    c.is_some.ensures ∙ ap is_some c.place.ensures ∙ listed_where c.args.house.0 (members_of l.members)
    ∙ ap (is_listed c.args.house.0) (sym (members_where c.args.self.now g c.args.dir.0 c.in-Some.at l s c.in-Some.ensures.0 there))

pub returns-in-None : goal.returns-in-None
returns-in-None c g s = sym (unlisted_where c.args.self.now g c.args.dir.0 c.args.house.0 s c.in-None.ensures)

use Rattle.std.proofs.Common.{[], ◌∷◌}
use Rattle.std.specs.Prelude.{Some, not}
use Rattle.std.proofs.lemmas.Result.{err_from_is_err_and}
use Rattle.cds_stamps.specs.Members.{is_listed}
use Rattle.cell_model.specs.Commands as command
use Rattle.cell_model.specs.Steps.{is_bad_list, is_down, is_missing, is_unknown}
use Rattle.house_directory.specs.HouseMessages.{numbers_of}
use Rattle.cds_cell.proofs.Refusals.{passed_first, refused_first}
use Rattle.cds_cell.proofs.cell.Cell.allows_epoch.Goals as goal

pub returns-in_err-listable : goal.returns-in_err-listable
returns-in_err-listable c g s =
    let p = err_from_is_err_and c.from_residual-in_err-listable.result c.from_residual-in_err-listable.ensures.1 in
    let hs = c.args.master.0 ∷ numbers_of c.args.others.now in
    let why = c.in_err-listable.field-0.0 in
    let listed = (is_missing g hs, command.NoHouse) ∷ (is_bad_list hs, command.BadMembers) ∷ [] in
    rw (p.1, p.2)
    (refused_first why ((is_unknown g c.args.dir.0, command.NoDirectory) ∷ listed)
    ((not (is_listed c.args.master.0 (g.present c.args.dir.0)), command.NotMember) ∷ (is_down g c.args.master.0, command.Down) ∷ [])
    (passed_first (is_unknown g c.args.dir.0) command.NoDirectory (Some why) listed (c.in_ok-known.ensures g s) (c.in_err-listable.ensures g s)))

use Rattle.std.proofs.Common.{[], ◌∷◌}
use Rattle.std.proofs.lemmas.Result.{err_from_is_err_and}
use Rattle.cell_model.specs.Commands as command
use Rattle.cell_model.specs.Steps.{is_bad_list, is_down, is_missing, is_unknown}
use Rattle.std.specs.Prelude.{◌||◌}
use Rattle.house_directory.specs.HouseMessages.{numbers_of}
use Rattle.cds_cell.proofs.Refusals.{refused_first}
use Rattle.cds_cell.proofs.cell.Cell.allows_child.Goals as goal

pub returns-in_err-pointed : goal.returns-in_err-pointed
returns-in_err-pointed c g s =
    let p = err_from_is_err_and c.from_residual.result c.from_residual.ensures.1 in
    let hs = c.args.master.0 ∷ numbers_of c.args.others.now in
    rw (p.1, p.2)
    (refused_first c.in_err-pointed.field-0.0
    ((is_unknown g c.args.dir.0, command.NoDirectory) ∷ (is_missing g (c.args.house.0 ∷ hs), command.NoHouse) ∷ (is_bad_list hs, command.BadMembers) ∷ [])
    ((is_down g c.args.house.0 || is_down g c.args.master.0, command.Down) ∷ []) (c.in_err-pointed.ensures g s))

use Rattle.std.proofs.Common.{sym, subst}
use Rattle.std.specs.Prelude.{OnOk, map}
use Rattle.cell_model.specs.Cells as model
use Rattle.cell_model.specs.Commands as command
use Rattle.cell_model.specs.Steps.{outcome, replay_from}
use Rattle.cds_cell.specs.CommandImages.{serials_after}
use Rattle.cds_cell.specs.ModelCells.{Stands}
use Rattle.cds_cell.proofs.Losses.{losing_crash}
use Rattle.cds_cell.proofs.Outcomes.{unspent_stands}
use Rattle.cds_cell.proofs.cell.Cell.crash_after.Goals as goal

pub returns-clause-crash : goal.returns-clause-crash
returns-clause-crash c g s =
    let lost = replay_from g (map command.Lose (serials_after c.args.kept g)) in
    let next = (outcome lost (command.Crash c.args.house.0)).cell in
    let d = c.crash_if_up-done.new.self in
    let done = unspent_stands d next c.crash_if_up-done.result (c.crash_if_up-done.ensures.crash lost (c.lose_after.ensures.lost g s)) in
    subst (λ (z : model.Cell). OnOk c.crash_if_up-done.result (Stands (record d { spent = c.is_err-self.result }) z)) (sym (losing_crash g c.args.house.0 c.args.kept))
    (subst (λ b. OnOk c.crash_if_up-done.result (Stands (record d { spent = b }) next)) (sym c.is_err-self.ensures.value) done)

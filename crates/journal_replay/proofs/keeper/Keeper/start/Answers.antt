use Rattle.std.specs.Prelude.{Option}
use Rattle.std.specs.declared.vec.Vec.{Vec}
use Rattle.std.proofs.Common.{Global, ℕ, ◌∷◌, [], sym, ◌∙◌, subst, refl}
use Rattle.cell_model.specs.Commands as model
use Rattle.cell_script.specs.declared.command.Command.TheVariants as command
use Rattle.cell_script.specs.declared.command.ScriptLine.TheVariants as script
use Rattle.cds_cell.specs.ModelCells.{Stands}
use Rattle.script_replay.specs.declared.replayer.Replayer.{Replayer}
use Rattle.script_replay.specs.Replies.{said_of}
use Rattle.journal_replay.proofs.Doing.{done_all, give_done, one_spares}
use Rattle.journal_replay.proofs.FullTold.{tells_memory, tells_up}
use Rattle.journal_replay.proofs.keeper.Keeper.start.Goals as goal

pub returns-in_ok-step-in-None-clause-does : goal.returns-in_ok-step-in-None-clause-does
returns-in_ok-step-in-None-clause-does c s stands =
    let g = s.cell in
    let here = subst (λ (r : Replayer). Stands r.cell g) (sym c.reopened.ensures.same) stands.cell in
    let done = c.in_ok-step-in-None.ensures.step g here in
    done_all c.in_ok-step-in-None.field-0 _ s (said_of g (script.Cell (command.Start c.args.house))) done.answer done.stands
    (give_done c.images_stay.ensures s (model.Start c.args.house.0 ∷ []) stands.cell.reached stands.gives (one_spares g (model.Start c.args.house.0)))
    (c.reopened.ensures.disks s.lists stands.disks) refl

pub returns-in_err-image-clause-full : goal.returns-in_err-image-clause-full
returns-in_err-image-clause-full c =
    tells_up (Option (Vec ℕ Global)) c.from_residual.result c.in_err-image.field-0.0 _ _ c.from_residual.ensures.1 c.in_err-image.ensures.full

pub returns-in_err-start_from-in-Some-clause-full : goal.returns-in_err-start_from-in-Some-clause-full
returns-in_err-start_from-in-Some-clause-full c =
    tells_memory c.from_residual-in_err-start_from-in-Some.result _ _ c.from_residual-in_err-start_from-in-Some.ensures.1 c.in_ok-image.ensures.full

pub returns-in_err-step-in-None-clause-full : goal.returns-in_err-step-in-None-clause-full
returns-in_err-step-in-None-clause-full c =
    tells_memory c.from_residual-in_err-step-in-None.result _ _ c.from_residual-in_err-step-in-None.ensures.1 c.in_ok-image.ensures.full

pub returns-in_ok-start_from-in-Some-clause-does : goal.returns-in_ok-start_from-in-Some-clause-does
returns-in_ok-start_from-in-Some-clause-does c s stands =
    let g = s.cell in
    let here = subst (λ (r : Replayer). Stands r.cell g) (sym c.reopened.ensures.same) stands.cell in
    let given = rw c.in-Some.is at c.in_ok-image.ensures.given s stands in
    let done = c.in_ok-start_from-in-Some.ensures.step g here (c.deref.ensures.value ∙ given.0) in
    done_all c.in_ok-start_from-in-Some.field-0 _ s (said_of g (script.Cell (command.Start c.args.house))) done.answer done.stands
    (give_done c.images_stay.ensures s (model.Start c.args.house.0 ∷ []) stands.cell.reached stands.gives (one_spares g (model.Start c.args.house.0)))
    (c.reopened.ensures.disks s.lists stands.disks) refl

use Rattle.std.proofs.Common.{◌≡◌, ◌∷◌, [], false, List, ℕ, refl, sym, ◌∙◌, subst}
use Rattle.cell_model.specs.Steps.{outcome}
use Rattle.cell_script.specs.declared.command.ScriptLine.TheVariants as script
use Rattle.cds_cell.specs.Scripted.{step_of}
use Rattle.cds_cell.specs.ModelCells.{Stands}
use Rattle.script_replay.specs.declared.replayer.Replayer.{Replayer}
use Rattle.script_replay.specs.Replies.{said_of}
use Rattle.journal_replay.specs.CellJournals.{lacks_room, puts_of, with_puts}
use Rattle.journal_replay.specs.CellDisks.{HoldAll}
use Rattle.journal_replay.proofs.Doing.{does_memory, done_all, give_done, one_spares}
use Rattle.journal_replay.proofs.FullTold.{tells_memory, tells_up}
use Rattle.journal_replay.proofs.Refusals.{refused_done}
use Rattle.journal_replay.proofs.keeper.Keeper.step.Goals as goal

pub returns-in_err-answer-clause-does : goal.returns-in_err-answer-clause-does
returns-in_err-answer-clause-does c s stands =
    does_memory _ s (said_of s.cell (script.Cell c.args.command)) c.from_residual.result c.from_residual.ensures.1 stands.disks

pub returns-then-is_refusal-clause-does : goal.returns-then-is_refusal-clause-does
returns-then-is_refusal-clause-does c s stands =
    let here = subst (λ x. Stands x s.cell) (sym c.cell.ensures) stands.cell in
    refused_done c.in_ok-answer.answer _ s (step_of c.args.command) _ _ (c.in_ok-answer.ensures.step s.cell stands.cell)
    (sym c.is_refusal.ensures ∙ c.if-is_refusal.true) (c.actors-first.ensures s.cell here) c.has_disk.ensures c.has_disk-then-is_refusal.ensures
    stands.gives stands.disks

pub returns-clause-does : goal.returns-clause-does
returns-clause-does c s stands =
    let g = s.cell in
    let next = (outcome g (step_of c.args.command)).cell in
    let here = subst (λ x. Stands x g) (sym c.cell.ensures) stands.cell in
    let acting = c.actors-first.ensures g here in
    let done = c.in_ok-answer.ensures.step g stands.cell in
    let puts = c.in_ok-keep_both.ensures.puts next s.lists done.stands stands.disks in
    done_all c.in_ok-answer.answer c.keep_both.new.self s (said_of g (script.Cell c.args.command)) done.answer
    (subst (λ (r : Replayer). Stands r.cell next) (sym c.keep_both.ensures.same) done.stands)
    (give_done c.images_stay.ensures s (step_of c.args.command ∷ []) stands.cell.reached stands.gives (one_spares g (step_of c.args.command)))
    (subst (λ (xs : List ℕ). HoldAll c.keep_both.new.self.disks.items (with_puts (puts_of next xs s.lists) s.lists)) acting puts.0)
    (subst (λ (xs : List ℕ). lacks_room s.lists (puts_of next xs s.lists) ≡ false) acting puts.1)

pub returns-in_err-answer-clause-full : goal.returns-in_err-answer-clause-full
returns-in_err-answer-clause-full c = tells_memory c.from_residual.result _ _ c.from_residual.ensures.1 refl

pub returns-in_err-keep_both-clause-full : goal.returns-in_err-keep_both-clause-full
returns-in_err-keep_both-clause-full c =
    tells_up (Unit {0}) c.from_residual-in_err-keep_both.result c.in_err-keep_both.field-0.0 _ _ c.from_residual-in_err-keep_both.ensures.1 c.in_err-keep_both.ensures.full

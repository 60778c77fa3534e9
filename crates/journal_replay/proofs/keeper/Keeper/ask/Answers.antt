use Rattle.std.proofs.Common.{◌≡◌, ◌≤◌, refl, sym, subst, arith}
use Rattle.std.specs.Prelude.{Ok}
use Rattle.cell_model.specs.Steps.{replay_from}
use Rattle.cds_cell.specs.ModelCells.{Stands}
use Rattle.ns_commands.specs.Asks.{changes_in}
use Rattle.script_replay.specs.declared.replayer.Replayer.{Replayer}
use Rattle.script_replay.specs.Replies.{Said, does, question_said}
use Rattle.journal_replay.specs.CellDisks.{disk_count}
use Rattle.journal_replay.specs.PrivateJournals.{AreDone, GivesUp, said_puts}
use Rattle.journal_replay.proofs.Doing.{asked_done, asked_up, does_give_up, does_memory}
use Rattle.journal_replay.proofs.FullTold.{tells_memory, tells_up}
use Rattle.journal_replay.proofs.keeper.Keeper.ask.Goals as goal

pub returns-in_err-answer-clause-does : goal.returns-in_err-answer-clause-does
returns-in_err-answer-clause-does c s stands =
    does_memory _ s (question_said s.cell c.args.question.now) c.from_residual.result c.from_residual.ensures.1 stands.disks

pub returns-in_err-answer-in-Updates-clause-does : goal.returns-in_err-answer-in-Updates-clause-does
returns-in_err-answer-in-Updates-clause-does c s stands =
    does_memory _ s (question_said s.cell c.args.question.now) c.from_residual-in_err-answer-in-Updates.result
    c.from_residual-in_err-answer-in-Updates.ensures.1 stands.disks

pub returns-in_err-keep_both-in-Updates-clause-does : goal.returns-in_err-keep_both-in-Updates-clause-does
returns-in_err-keep_both-in-Updates-clause-does c s stands =
    let here = subst (λ x. Stands x s.cell) (sym c.cell.ensures) stands.cell in
    let ch = changes_in c.in-Updates.updates in
    let said : question_said s.cell c.args.question.now ≡ does s.cell (Ok ch) = rw c.in-Updates.is at c.in_ok-answer.ensures.said s.cell here in
    let few : ch.house ≤ disk_count = omega arith in
    let done = c.in_ok-answer-in-Updates.ensures.done s.cell stands.cell in
    does_give_up c.keep_both.new.self s (question_said s.cell c.args.question.now) c.from_residual-in_err-keep_both-in-Updates.result
    c.in_err-keep_both-in-Updates.field-0.0 c.from_residual-in_err-keep_both-in-Updates.ensures.1
    (subst (λ (said : Said). GivesUp c.in_err-keep_both-in-Updates.field-0.0 c.keep_both.new.self.disks.items s.lists (said_puts s said)) (sym said)
    (asked_up s ch few stands.gives c.keep_both.new.self.disks.items c.in_err-keep_both-in-Updates.field-0.0
    (c.in_err-keep_both-in-Updates.ensures.puts (replay_from s.cell (does s.cell (Ok ch)).steps) s.lists done.stands stands.disks)))

pub returns-in_ok-keep_both-in-Updates-clause-does : goal.returns-in_ok-keep_both-in-Updates-clause-does
returns-in_ok-keep_both-in-Updates-clause-does c s stands =
    let here = subst (λ x. Stands x s.cell) (sym c.cell.ensures) stands.cell in
    let ch = changes_in c.in-Updates.updates in
    let said : question_said s.cell c.args.question.now ≡ does s.cell (Ok ch) = rw c.in-Updates.is at c.in_ok-answer.ensures.said s.cell here in
    let few : ch.house ≤ disk_count = omega arith in
    let done = c.in_ok-answer-in-Updates.ensures.done s.cell stands.cell in
    let next = replay_from s.cell (does s.cell (Ok ch)).steps in
    let puts = c.in_ok-keep_both-in-Updates.ensures.puts next s.lists done.stands stands.disks in
    subst (AreDone c.in_ok-answer-in-Updates.answer c.keep_both.new.self s) (sym said)
    (asked_done s ch few stands.gives c.images_stay.ensures c.in_ok-answer-in-Updates.answer c.keep_both.new.self stands.cell.reached done.answer
    (subst (λ (r : Replayer). Stands r.cell next) (sym c.keep_both.ensures.same) done.stands) puts.0 puts.1)

pub returns-in_err-answer-clause-full : goal.returns-in_err-answer-clause-full
returns-in_err-answer-clause-full c = tells_memory c.from_residual.result _ _ c.from_residual.ensures.1 refl

pub returns-in_err-answer-in-Updates-clause-full : goal.returns-in_err-answer-in-Updates-clause-full
returns-in_err-answer-in-Updates-clause-full c = tells_memory c.from_residual-in_err-answer-in-Updates.result _ _ c.from_residual-in_err-answer-in-Updates.ensures.1 refl

pub returns-in_err-keep_both-in-Updates-clause-full : goal.returns-in_err-keep_both-in-Updates-clause-full
returns-in_err-keep_both-in-Updates-clause-full c =
    tells_up (Unit {0}) c.from_residual-in_err-keep_both-in-Updates.result c.in_err-keep_both-in-Updates.field-0.0 _ _ c.from_residual-in_err-keep_both-in-Updates.ensures.1 c.in_err-keep_both-in-Updates.ensures.full

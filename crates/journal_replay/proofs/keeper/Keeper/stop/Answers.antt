use Rattle.std.proofs.Common.{◌≡◌, sym, ◌∙◌, subst}
use Rattle.std.specs.Prelude.{OnOk}
use Rattle.cds_cell.specs.ModelCells.{Stands}
use Rattle.cds_cell.specs.Scripted.{step_of}
use Rattle.journal_forms.specs.declared.journal_line.JournalLine.{JournalLine}
use Rattle.journal_forms.specs.declared.journal_line.JournalLine.TheVariants as line
use Rattle.journal_replay.specs.CellJournals.{puts_in}
use Rattle.journal_replay.specs.DiskCalls.{LineCalls}
use Rattle.journal_replay.specs.PrivateJournals.{HasDone, Replies}
use Rattle.journal_replay.specs.declared.keeper.Keeper.{Keeper}
use Rattle.journal_replay.proofs.Doing.{replies_memory}
use Rattle.journal_replay.proofs.Putting.{putting_at_start}
use Rattle.journal_replay.proofs.StopReplies.{unless_ok}
use Rattle.journal_replay.proofs.keeper.Keeper.stop.Goals as goal

pub returns-in_err-answer-clause-reply : goal.returns-in_err-answer-clause-reply
returns-in_err-answer-clause-reply c s stands =
    let l : JournalLine = line.Stop c.args.house c.args.call c.args.leave c.args.command in
    replies_memory _ s l c.from_residual.result c.from_residual.ensures.1
    (putting_at_start c.args.self.now.disks.items s.lists (puts_in s l) stands.disks)

pub returns-clause-reply : goal.returns-clause-reply
returns-clause-reply c s stands =
    let l : JournalLine = line.Stop c.args.house c.args.call c.args.leave c.args.command in
    let stood = subst (λ x. Stands x s.cell) (sym c.cell.ensures) stands.cell in
    let stepped = c.in_ok-answer.ensures.step s.cell stands.cell in
    let k : Keeper = record c.args.self.now { replayer = c.step.new.self } in
    let done : HasDone k s c.args.house.0 (step_of c.args.command) c.in-Ok.mark = record {
      before = c.cell.result.now;
      stood = stood;
      marks = c.in-Ok.ensures.mark;
      image = c.in-Ok.ensures.image s.cell stood;
      allowed = sym (c.stop_refusal.ensures.refused s.cell stands.cell) ∙ c.in_default.is;
      now = stepped.stands;
      disks = stands.disks;
      gives = stands.gives;
    } in
    subst (λ r. Replies r c.stop_changed-stopped.new.self s l) (sym c.answer_unless.ensures)
    (c.stop_changed-stopped.ensures.reply s c.args.command c.in_ok-answer.answer done stepped.answer)

pub returns-clause-calls : goal.returns-clause-calls
returns-clause-calls c s stands =
    let l : JournalLine = line.Stop c.args.house c.args.call c.args.leave c.args.command in
    let stood = subst (λ x. Stands x s.cell) (sym c.cell.ensures) stands.cell in
    let stepped = c.in_ok-answer.ensures.step s.cell stands.cell in
    let k : Keeper = record c.args.self.now { replayer = c.step.new.self } in
    let done : HasDone k s c.args.house.0 (step_of c.args.command) c.in-Ok.mark = record {
      before = c.cell.result.now;
      stood = stood;
      marks = c.in-Ok.ensures.mark;
      image = c.in-Ok.ensures.image s.cell stood;
      allowed = sym (c.stop_refusal.ensures.refused s.cell stands.cell) ∙ c.in_default.is;
      now = stepped.stands;
      disks = stands.disks;
      gives = stands.gives;
    } in
    subst (λ r. OnOk r (LineCalls s l c.args.self.now.disks.items c.stop_changed-stopped.new.self.disks.items)) (sym c.answer_unless.ensures)
    (unless_ok c.stop_changed-stopped.result c.in_ok-answer.answer (LineCalls s l c.args.self.now.disks.items c.stop_changed-stopped.new.self.disks.items)
    (c.stop_changed-stopped.ensures.calls s c.args.command done))

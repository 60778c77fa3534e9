use Rattle.std.proofs.Common.{subst, sym}
use Rattle.journal_replay.specs.CellDisks.{AreNew, AreUsable}
use Rattle.journal_replay.specs.CellJournals.{empty_state}
use Rattle.journal_replay.specs.JournalRules.{AreOnDisks, ArePut, IsAfter, journal_rule}
use Rattle.line_forms.specs.Leaving.{Leaves}
use Rattle.cds_base.specs.RunEnds.{run_of}
use Rattle.journal_replay.proofs.Usable.{new_usable}
use Rattle.reply_buffer.specs.declared.replies.LineEnd.{LineEnd}
use Rattle.line_forms.proofs.Holding.{always_holds}
use Rattle.line_forms.proofs.LinesLeft.{unread_left}
use Rattle.line_forms.proofs.Turns.{unread_lines}
use Rattle.cell_replay.proofs.JournalReplays.{is_journal_replay}
use Rattle.cell_replay.proofs.NewDisks.{new_on_disks}
use Rattle.cell_replay.proofs.replay.run_journal.Goals as goal

pub returns-in-Ok-clause-ends : goal.returns-in-Ok-clause-ends
returns-in-Ok-clause-ends g c = c.serve_form-status.ensures.ends empty_state c.in-Ok.ensures.stands

pub returns-in-Ok-clause-transcript : goal.returns-in-Ok-clause-transcript
returns-in-Ok-clause-transcript g c ok =
    let ended = rw (ok) at (c.serve_form-status.ensures.ends empty_state c.in-Ok.ensures.stands) in
    is_journal_replay _ ended.1

pub returns-in-Ok-clause-disks : goal.returns-in-Ok-clause-disks
returns-in-Ok-clause-disks g c =
    subst (λ ds. Leaves journal_rule (AreOnDisks ds) (ArePut ds) empty_state (run_of g.S.Source g.K.Sink
    c.args.source.now c.serve_form-status.new.source c.args.sink.now c.serve_form-status.new.sink) c.serve_form-status.result) (sym c.into_disks.ensures)
    (c.serve_form-status.ensures.leaves empty_state c.in-Ok.ensures.stands)

pub returns-in-Err-clause-ends : goal.returns-in-Err-clause-ends
returns-in-Err-clause-ends g c = unread_lines journal_rule empty_state _ _ _ _

pub returns-in-Err-clause-disks : goal.returns-in-Err-clause-disks
returns-in-Err-clause-disks g c =
    unread_left journal_rule (AreOnDisks c.new.new.disks.items) (ArePut c.new.new.disks.items) empty_state _ _ _ _
    (new_on_disks c.args.disks.now.items c.new.new.disks.items c.requires c.in-Err.ensures.err)

pub returns-in-Ok-clause-usable : goal.returns-in-Ok-clause-usable
returns-in-Ok-clause-usable g c =
    subst AreUsable (sym c.into_disks.ensures)
    (always_holds (λ (e : LineEnd). IsAfter e c.serve_form-status.new.form) c.serve_form-status.result (λ e held. held.0)
    (c.serve_form-status.ensures.holds empty_state c.in-Ok.ensures.stands (c.in-Ok.ensures.usable, c.in-Ok.ensures.full)))

pub returns-in-Err-clause-usable : goal.returns-in-Err-clause-usable
returns-in-Err-clause-usable g c = new_usable c.new.new.disks.items (subst AreNew (sym c.in-Err.ensures.err) c.requires)

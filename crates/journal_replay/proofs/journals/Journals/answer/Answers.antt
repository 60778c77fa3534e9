use Rattle.journal_replay.proofs.Replied.{err_given_up}
use Rattle.journal_forms.specs.declared.journal_answer.JournalAnswer.{JournalAnswer}
use Rattle.journal_replay.proofs.FullTold.{tells_memory, tells_up}
use Rattle.journal_replay.proofs.journals.Journals.answer.Goals as goal

pub returns-in_err-add_text-clause-given_up : goal.returns-in_err-add_text-clause-given_up
returns-in_err-add_text-clause-given_up c s stands =
    err_given_up c.reply.new.self.disks.items s c.args.line c.from_residual-in_err-add_text.result c.from_residual-in_err-add_text.ensures.1
    (c.in_ok-answer.ensures.reply s stands.stands).stands.disks

pub returns-in_err-answer-clause-full : goal.returns-in_err-answer-clause-full
returns-in_err-answer-clause-full c =
    tells_up JournalAnswer c.from_residual.result c.in_err-answer.field-0.0 _ _ c.from_residual.ensures.1 c.in_err-answer.ensures.full

pub returns-in_err-add_text-clause-full : goal.returns-in_err-add_text-clause-full
returns-in_err-add_text-clause-full c =
    tells_memory c.from_residual-in_err-add_text.result _ _ c.from_residual-in_err-add_text.ensures.1 c.in_ok-answer.ensures.full

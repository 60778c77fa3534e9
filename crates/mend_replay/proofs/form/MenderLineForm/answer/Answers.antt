use Rattle.mend_replay.proofs.MendForms.{mend_ends}
use Rattle.mend_replay.proofs.form.MenderLineForm.answer.Goals as goal

pub returns-clause-reply : goal.returns-clause-reply
returns-clause-reply c state at =
    mend_ends c.args.self.now c.take_line.new.self c.take_line.result c.args.number c.args.line.now _ _ state at c.take_line.ensures.dir c.take_line.ensures.without c.take_line.ensures.reply

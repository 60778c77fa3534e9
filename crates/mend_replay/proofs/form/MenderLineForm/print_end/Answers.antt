use Rattle.mend_replay.proofs.MendForms.{mend_told}
use Rattle.mend_replay.proofs.form.MenderLineForm.print_end.Goals as goal

pub returns : goal.returns
returns c state at = mend_told c.args.self.now c.print_lines.result state at c.print_lines.ensures

use Rattle.line_forms.proofs.Saying.{none_asked}
use Rattle.script_replay.proofs.form.ReplayerDialogueForm.parse.Goals as goal

pub returns-clause-some : goal.returns-clause-some
returns-clause-some c = none_asked c.parse_line.result

-- By the two directions.
use Rattle.form_laws.proofs.LastAnswers.{completes_at_last}
use Rattle.form_laws.proofs.laws.a_last_answer_completes.Goals as goal

pub returns : goal.returns
returns c = completes_at_last

use Rattle.form_laws.proofs.Lines.{honest}
use Rattle.form_laws.proofs.laws.kept_answers_are_honest.Goals as goal

pub returns : goal.returns
returns c = honest

use Rattle.form_laws.proofs.Settled.{settled}
use Rattle.form_laws.proofs.laws.completed_lines_settle.Goals as goal

pub returns : goal.returns
returns c = settled

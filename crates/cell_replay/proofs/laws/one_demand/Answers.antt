use Rattle.cell_replay.proofs.AllForms.{all_lawful}
use Rattle.cell_replay.proofs.laws.one_demand.Goals as goal

pub returns-clause-some : goal.returns-clause-some
returns-clause-some c form = (all_lawful form).some

pub returns-clause-only : goal.returns-clause-only
returns-clause-only c form = (all_lawful form).only

use Rattle.cell_replay.proofs.AllForms.{all_lawful}
use Rattle.cell_replay.proofs.laws.bodies_stay.Goals as goal

pub returns : goal.returns
returns c form = (all_lawful form).due_stays

use Rattle.cell_replay.proofs.AllForms.{all_lawful}
use Rattle.cell_replay.proofs.laws.shown_faults_stay.Goals as goal

pub returns : goal.returns
returns c form = (all_lawful form).fault_stays

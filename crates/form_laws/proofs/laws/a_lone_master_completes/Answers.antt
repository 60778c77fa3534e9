-- By the two directions.
use Rattle.form_laws.proofs.LoneMasters.{completes_alone}
use Rattle.form_laws.proofs.laws.a_lone_master_completes.Goals as goal

pub returns : goal.returns
returns c = completes_alone

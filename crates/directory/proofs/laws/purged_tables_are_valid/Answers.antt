use Rattle.directory.proofs.PurgeLaws.{purged-valid}
use Rattle.directory.proofs.laws.purged_tables_are_valid.Goals as goal

pub returns : goal.returns
returns c = purged-valid

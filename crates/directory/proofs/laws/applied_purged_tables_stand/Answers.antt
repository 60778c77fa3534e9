use Rattle.directory.proofs.AppliedPurges.{applied-purged}
use Rattle.directory.proofs.laws.applied_purged_tables_stand.Goals as goal

pub returns : goal.returns
returns c = applied-purged

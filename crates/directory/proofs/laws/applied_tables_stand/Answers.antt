use Rattle.directory.proofs.UpdateLaws.{applied-table_of}
use Rattle.directory.proofs.laws.applied_tables_stand.Goals as goal

pub returns : goal.returns
returns c = applied-table_of

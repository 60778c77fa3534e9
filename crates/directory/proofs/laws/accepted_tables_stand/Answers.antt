use Rattle.directory.proofs.UpdateLaws.{accepted-table_of}
use Rattle.directory.proofs.laws.accepted_tables_stand.Goals as goal

pub returns : goal.returns
returns c = accepted-table_of

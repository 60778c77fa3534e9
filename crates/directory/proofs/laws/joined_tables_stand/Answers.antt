use Rattle.directory.proofs.TableLaws.{joined-table_of}
use Rattle.directory.proofs.laws.joined_tables_stand.Goals as goal

pub returns : goal.returns
returns c = joined-table_of

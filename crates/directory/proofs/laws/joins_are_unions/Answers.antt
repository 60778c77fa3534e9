use Rattle.directory.proofs.HistoryLaws.{join_tables-table_of}
use Rattle.directory.proofs.laws.joins_are_unions.Goals as goal

pub returns : goal.returns
returns c = join_tables-table_of

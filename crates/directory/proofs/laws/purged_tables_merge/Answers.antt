use Rattle.directory.proofs.TakeLaws.{taken_table}
use Rattle.directory.proofs.DropLaws.{dropped-taken}
use Rattle.directory.proofs.laws.purged_tables_merge.Goals as goal

pub returns-clause-purged : goal.returns-clause-purged
returns-clause-purged c = taken_table

pub returns-clause-dropped : goal.returns-clause-dropped
returns-clause-dropped c = dropped-taken

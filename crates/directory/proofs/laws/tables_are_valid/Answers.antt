use Rattle.directory.proofs.TableLaws.{table_of-valid, table_of-nil}
use Rattle.directory.proofs.laws.tables_are_valid.Goals as goal

pub returns-clause-valid : goal.returns-clause-valid
returns-clause-valid c = table_of-valid

pub returns-clause-empty : goal.returns-clause-empty
returns-clause-empty c = table_of-nil

use Rattle.directory.proofs.ShownLaws.{shown_in-table_of}
use Rattle.directory.proofs.laws.tables_show_histories.Goals as goal

pub returns : goal.returns
returns c = shown_in-table_of

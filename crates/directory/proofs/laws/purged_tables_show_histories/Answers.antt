use Rattle.directory.proofs.PurgeLaws.{shown_in-purged}
use Rattle.directory.proofs.laws.purged_tables_show_histories.Goals as goal

pub returns : goal.returns
returns c = shown_in-purged

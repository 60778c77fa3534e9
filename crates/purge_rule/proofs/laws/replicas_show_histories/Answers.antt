use Rattle.directory.proofs.PurgeLaws.{shown_in-purged}
use Rattle.purge_rule.proofs.laws.replicas_show_histories.Goals as goal

pub returns : goal.returns
returns c = shown_in-purged

use Rattle.purge_rule.proofs.ReplicaLaws.{delta_in-up_to}
use Rattle.purge_rule.proofs.laws.deltas_make_no_later_time.Goals as goal

pub returns : goal.returns
returns c = λ r n. delta_in-up_to n r

use Rattle.directory.proofs.PurgeLaws.{purged-valid}
use Rattle.purge_rule.proofs.ReplicaLaws.{delta_of-valid}
use Rattle.purge_rule.proofs.laws.replicas_are_valid.Goals as goal

pub returns-clause-replica : goal.returns-clause-replica
returns-clause-replica c = purged-valid

pub returns-clause-delta : goal.returns-clause-delta
returns-clause-delta c = delta_of-valid

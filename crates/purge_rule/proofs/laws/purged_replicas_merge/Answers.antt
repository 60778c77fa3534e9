use Rattle.std.proofs.Common.{Some}
use Rattle.directory.proofs.DeltaLaws.{taken-delta}
use Rattle.directory.proofs.TakeLaws.{taken_table}
use Rattle.purge_rule.proofs.MergeLaws.{above_right}
use Rattle.purge_rule.proofs.laws.purged_replicas_merge.Goals as goal

pub returns-clause-replica : goal.returns-clause-replica
returns-clause-replica c = λ h g a b t later can. taken_table h g b t (above_right a b (Some t) later) can

pub returns-clause-delta : goal.returns-clause-delta
returns-clause-delta c = λ h g a b t later can. taken-delta h g b t (above_right a b (Some t) later) can

use Rattle.std.proofs.Common.{refl}
use Rattle.purge_rule.proofs.ReplicaLaws.{same_replica, purged-same}
use Rattle.purge_rule.proofs.laws.same_marks_make_one_replica.Goals as goal

pub returns : goal.returns
returns c = λ g h t same. same_replica _ _ _ _ (purged-same g h t same) refl

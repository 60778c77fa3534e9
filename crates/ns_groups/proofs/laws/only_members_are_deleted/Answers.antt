use Rattle.ns_groups.proofs.GroupLaws.{delete_fault-none}
use Rattle.ns_groups.proofs.laws.only_members_are_deleted.Goals as goal

pub returns : goal.returns
returns c = delete_fault-none

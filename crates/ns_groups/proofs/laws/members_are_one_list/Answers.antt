use Rattle.ns_groups.proofs.GroupLaws.{members-one}
use Rattle.ns_groups.proofs.laws.members_are_one_list.Goals as goal

pub returns : goal.returns
returns c = members-one

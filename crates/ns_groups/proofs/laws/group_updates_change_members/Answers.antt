use Rattle.ns_groups.proofs.GroupLaws.{members-added, members-removed}
use Rattle.ns_groups.proofs.laws.group_updates_change_members.Goals as goal

pub returns-clause-added : goal.returns-clause-added
returns-clause-added c = members-added

pub returns-clause-removed : goal.returns-clause-removed
returns-clause-removed c = members-removed

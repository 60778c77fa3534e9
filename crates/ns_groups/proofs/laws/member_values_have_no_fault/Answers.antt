use Rattle.ns_groups.proofs.GroupLaws.{member_fault-none}
use Rattle.ns_groups.proofs.laws.member_values_have_no_fault.Goals as goal

pub returns : goal.returns
returns c = member_fault-none

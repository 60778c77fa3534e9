use Rattle.cds_stamps.proofs.MemberLaws.{members_fault-none}
use Rattle.cds_stamps.proofs.laws.member_lists_have_no_fault.Goals as goal

pub returns : goal.returns
returns c = members_fault-none

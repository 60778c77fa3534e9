use Rattle.std.proofs.Common.{refl}
use Rattle.cds_stamps.specs.declared.members.MembersFault.TheVariants.{BadCount, NotAscending, BadMaster}
use Rattle.cds_stamps.proofs.MemberFaults.{members_fault-first}
use Rattle.cds_stamps.proofs.laws.faults_of_member_lists_are_at_the_first_place.Goals as goal

pub returns-clause-count : goal.returns-clause-count
returns-clause-count c = λ ms e. (members_fault-first ms BadCount e).count refl

pub returns-clause-order : goal.returns-clause-order
returns-clause-order c = λ ms place e. (members_fault-first ms (NotAscending place) e).order place refl

pub returns-clause-master : goal.returns-clause-master
returns-clause-master c = λ ms e. (members_fault-first ms BadMaster e).master refl

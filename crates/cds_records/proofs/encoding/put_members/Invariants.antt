use Rattle.std.proofs.Common.{drop}
use Rattle.cds_records.proofs.WritingMembers.{ListWritten}
use Rattle.cds_records.proofs.encoding.put_members.Given as goal

abbrev pub invariant-loop-member : goal.invariant-loop-member
invariant-loop-member l = ListWritten l.list (drop l.member-index l.list) l.initial.out.items l.out.items

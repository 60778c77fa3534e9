use Rattle.std.proofs.Common.{◌≤◌, drop, length}
use Rattle.cds_stamps.specs.Members.{members_of}
use Rattle.cds_cell.proofs.MemberLists.{LeavesRest}
use Rattle.cds_cell.proofs.members.leaving.Given as goal

abbrev pub invariant-loop-member : goal.invariant-loop-member
invariant-loop-member l = record {
  few : length l.left.items ≤ l.member-index;
  rest : LeavesRest (members_of l.before) (members_of l.now) (drop l.member-index l.before) l.left.items;
}

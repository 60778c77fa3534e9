use Rattle.std.proofs.Common.{◌≡◌, ◌+◌, ◌≤◌, drop}
use Rattle.cds_stamps.specs.Members.{members_of, first_unordered}
use Rattle.cds_stamps.proofs.members.unordered_place.Given as goal

abbrev pub invariant-loop-i : goal.invariant-loop-i
invariant-loop-i l = record {
  same : first_unordered (l.i + 1) l.least (members_of (drop l.i l.list)) ≡ first_unordered 1 0 (members_of l.list);
  in_range : l.least ≤ 256;
}

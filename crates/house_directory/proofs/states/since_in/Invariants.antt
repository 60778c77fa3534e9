use Rattle.std.proofs.Common.{◌≡◌, drop}
use Rattle.cds_stamps.specs.Members.{members_of, since_in}
use Rattle.house_directory.proofs.states.since_in.Given as goal

abbrev pub invariant-loop-member : goal.invariant-loop-member
invariant-loop-member l = since_in (members_of l.members) l.house.0 0 ≡ since_in (members_of (drop l.member-index l.members)) l.house.0 0

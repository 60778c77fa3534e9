use Rattle.std.proofs.Common.{◌≡◌, drop}
use Rattle.cds_stamps.specs.Members.{members_of, master_of}
use Rattle.cds_stamps.proofs.members.Members.master.Given as goal

abbrev pub invariant-loop-member : goal.invariant-loop-member
invariant-loop-member l = master_of (members_of (drop l.member-index l.member-items)) ≡ master_of (members_of l.self)

use Rattle.std.proofs.Common.{◌≡◌, ◌+◌, ◌≤◌, drop, length}
use Rattle.cds_stamps.specs.Members.{members_of, others_of}
use Rattle.mend_replay.proofs.commands.count_others.Given as goal

abbrev pub invariant-loop-member : goal.invariant-loop-member
invariant-loop-member l =
    (l.others + length (others_of l.master.0 (members_of (drop l.member-index l.members))) ≡ length (others_of l.master.0 (members_of l.members)))
    × (l.others ≤ l.member-index)

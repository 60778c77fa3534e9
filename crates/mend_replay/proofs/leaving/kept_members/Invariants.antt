use Rattle.std.proofs.Common.{◌≡◌, ◌++◌, drop}
use Rattle.cds_stamps.specs.Members.{members_of}
use Rattle.house_directory.specs.HouseMessages.{numbers_of}
use Rattle.mend_model.specs.Leaving.{kept_members}
use Rattle.mend_replay.proofs.leaving.kept_members.Given as goal

abbrev pub invariant-loop-member : goal.invariant-loop-member
invariant-loop-member l =
    members_of l.kept.items ++ kept_members (numbers_of l.without) l.master.0 (members_of (drop l.member-index l.members))
    ≡ kept_members (numbers_of l.without) l.master.0 (members_of l.members)

use Rattle.std.proofs.Common.{◌≡◌, ◌++◌, drop}
use Rattle.cds_stamps.specs.Members.{members_of, others_of}
use Rattle.house_directory.specs.HouseMessages.{numbers_of}
use Rattle.cds_cell.proofs.reader.others_in.Given as goal

abbrev pub invariant-loop-member : goal.invariant-loop-member
invariant-loop-member l =
    others_of l.master.0 (members_of l.members)
    ≡ numbers_of l.others.items ++ others_of l.master.0 (members_of (drop l.member-index l.members))

use Rattle.std.proofs.Common.{drop}
use Rattle.cds_stamps.specs.Members.{members_of}
use Rattle.cell_script.specs.Listings.{houses_in, secondaries_in}
use Rattle.house_directory.specs.HouseMessages.{numbers_of}
use Rattle.cds_cell.proofs.MemberLists.{ListsRest}
use Rattle.cds_cell.proofs.members.member_list.Given as goal

abbrev pub invariant-loop-house : goal.invariant-loop-house
invariant-loop-house l =
    ListsRest (members_of l.before) l.epoch.0 l.master.0 (numbers_of (houses_in l.others)) (numbers_of (secondaries_in l.others)) (drop l.house-index l.house-items) l.list.items

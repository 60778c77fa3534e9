use Rattle.std.proofs.Common.{drop}
use Rattle.house_directory.proofs.Receivers.{OthersRest}
use Rattle.house_directory.proofs.states.Held.others.Given as goal

abbrev pub invariant-loop-member : goal.invariant-loop-member
invariant-loop-member l = OthersRest l.house.0 l.self.members (drop l.member-index l.self.members) l.others.items

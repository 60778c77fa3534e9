use Rattle.std.proofs.Common.{drop}
use Rattle.house_directory.specs.HouseMessages.{message_of}
use Rattle.house_directory.proofs.Posts.{PostsRest}
use Rattle.house_directory.proofs.states.Held.posted_to_others.Given as goal

abbrev pub invariant-loop-member : goal.invariant-loop-member
invariant-loop-member l = PostsRest (message_of l.sender l.self l.outgoing) l.self.members (drop l.member-index l.self.members) l.posted

use Rattle.std.proofs.Common.{◌≡◌, ◌++◌, drop}
use Rattle.command_lines.specs.ListedMembers.{listed_others}
use Rattle.command_lines.proofs.members.listed_others.Given as goal

abbrev pub invariant-loop-member : goal.invariant-loop-member
invariant-loop-member l =
    l.others.items ++ listed_others l.master (drop l.member-index l.members) ≡ listed_others l.master l.members

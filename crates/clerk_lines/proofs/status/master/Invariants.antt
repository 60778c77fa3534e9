use Rattle.std.proofs.Common.{◌≡◌, drop}
use Rattle.clerk_lines.specs.RootLists.{master_in}
use Rattle.clerk_lines.proofs.status.master.Given as goal

abbrev pub invariant-loop-member : goal.invariant-loop-member
invariant-loop-member l = master_in l.members ≡ master_in (drop l.member-index l.members)

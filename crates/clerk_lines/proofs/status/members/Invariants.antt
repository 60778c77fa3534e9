use Rattle.std.proofs.Common.{◌≡◌, ◌++◌, length}
use Rattle.std.specs.Option.{option_map}
use Rattle.clerk_lines.specs.RootLists.{members_said}
use Rattle.clerk_lines.proofs.status.members.Given as goal

abbrev pub invariant-loop-word : goal.invariant-loop-word
invariant-loop-word l = members_said l.fn.words.rest ≡ option_map (λ ms. l.members.items ++ ms) (members_said l.words.rest)

abbrev pub decreases-loop-word : goal.decreases-loop-word
decreases-loop-word l = length l.words.rest

use Rattle.std.proofs.Common.{drop, map}
use Rattle.clerk_turns.proofs.RootAsks.{IsAsking}
use Rattle.clerk_turns.specs.Asking.{root_ask}
use Rattle.clerk_turns.proofs.clerk.Clerk.put_each.Given as goal

-- those up to this one were asked
abbrev pub invariant-loop-house : goal.invariant-loop-house
invariant-loop-house l = IsAsking l.job l.fn.self (map (root_ask 0) l.houses) l.text.items l.self (map (root_ask 0) (drop l.house-index l.houses))

use Rattle.std.proofs.Common.{◌≡◌, ◌++◌, take}
use Rattle.house_turns.specs.PrivateTurns.{letters_kept}
use Rattle.house_turns.proofs.posts.push_each_whole.Given as goal

abbrev pub invariant-loop-to : goal.invariant-loop-to
invariant-loop-to l = l.text.items ≡ l.fn.text.items ++ letters_kept l.octets (take l.to-index l.receivers)

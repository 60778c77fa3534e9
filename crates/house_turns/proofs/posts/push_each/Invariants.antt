use Rattle.std.proofs.Common.{◌≡◌, ◌++◌, take}
use Rattle.house_turns.specs.PrivateTurns.{letters_text}
use Rattle.house_turns.proofs.posts.push_each.Given as goal

abbrev pub invariant-loop-to : goal.invariant-loop-to
invariant-loop-to l = l.text.items ≡ l.fn.text.items ++ letters_text l.number l.octets (take l.to-index l.receivers)

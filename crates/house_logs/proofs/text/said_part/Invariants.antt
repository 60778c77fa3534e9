use Rattle.std.proofs.Common.{length}
use Rattle.house_logs.proofs.TextLemmas.{PartsLeft}
use Rattle.house_logs.proofs.text.said_part.Given as goal

abbrev pub invariant-lines : goal.invariant-lines
invariant-lines l = PartsLeft l.text l.rest l.posts.items

abbrev pub decreases-lines : goal.decreases-lines
decreases-lines l = length l.rest

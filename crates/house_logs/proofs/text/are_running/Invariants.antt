use Rattle.std.proofs.Common.{length}
use Rattle.house_logs.proofs.TextLemmas.{AreAlike}
use Rattle.house_logs.proofs.text.are_running.Given as goal

abbrev pub invariant-lines : goal.invariant-lines
invariant-lines l = AreAlike l.text l.rest

abbrev pub decreases-lines : goal.decreases-lines
decreases-lines l = length l.rest

use Rattle.std.proofs.Common.{length}
use Rattle.house_turns.proofs.RunningLines.{SkulksLeft}
use Rattle.house_turns.proofs.running.read_skulks.Given as goal

abbrev pub invariant-lines : goal.invariant-lines
invariant-lines l = SkulksLeft l.text l.skulks.items l.rest

abbrev pub decreases-lines : goal.decreases-lines
decreases-lines l = length l.rest

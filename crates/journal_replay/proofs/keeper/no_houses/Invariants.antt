use Rattle.std.proofs.Common.{◌≡◌, None, replicate}
use Rattle.journal_replay.proofs.keeper.no_houses.Given as goal

abbrev pub invariant-loop : goal.invariant-loop
invariant-loop l = l.houses.items ≡ replicate l.counter None

use Rattle.std.proofs.Common.{◌≡◌, length}
use Rattle.service_tests.proofs.lists.tower_of.Given as goal

abbrev pub invariant-loop : goal.invariant-loop
invariant-loop l = length l.tower ≡ l.counter

use Rattle.std.proofs.Common.{◌≡◌}
use Rattle.directory.specs.IndexWords.{Keeps}
use Rattle.directory.proofs.LaterLaws.{KnowsRest}
use Rattle.directory.proofs.later.add_deletions.Given as goal

abbrev pub invariant-loop-name : goal.invariant-loop-name
invariant-loop-name l = record {
  keeps : Keeps l.fn.deletions l.deletions;
  knows : KnowsRest l.deletions l.fn.entries l.name-iterator;
  room : l.deletions.most ≡ l.fn.deletions.most;
}

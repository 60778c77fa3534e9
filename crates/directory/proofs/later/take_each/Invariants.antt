use Rattle.std.specs.List.{AllByRecursion}
use Rattle.directory.specs.Entries.{IsValidEntry, IsValidTable}
use Rattle.directory.specs.IndexWords.{IsKnown, IsLogged}
use Rattle.directory.proofs.LaterLaws.{TakesInTurn}
use Rattle.directory.proofs.later.take_each.Given as goal

abbrev pub invariant-loop-name : goal.invariant-loop-name
invariant-loop-name l = record {
  valid : IsValidTable l.fn.other → AllByRecursion (λ p. IsValidEntry p.1) l.name-iterator;
  takes : IsValidTable l.fn.entries → IsValidTable l.fn.other → TakesInTurn l.fn.t l.fn.entries l.fn.other l.entries l.name-iterator;
  knows : IsValidTable l.fn.other → IsKnown l.fn.deletions l.fn.entries → IsKnown l.deletions l.entries;
  logged : IsLogged l.fn.entries l.entries l.fn.deletions l.deletions l.fn.log.items l.log.items;
}

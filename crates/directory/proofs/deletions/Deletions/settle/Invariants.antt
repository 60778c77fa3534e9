use Rattle.directory.specs.IndexWords.{deletion_count, Keeps, KnowsAll, IsSettled}
use Rattle.directory.proofs.deletions.Deletions.settle.Given as goal

abbrev pub invariant-loop : goal.invariant-loop
invariant-loop l = (KnowsAll l.fn.self l.fn.entries → KnowsAll l.self l.fn.entries) × Keeps l.self l.fn.self × IsSettled l.fn.self l.self l.fn.entries

abbrev pub decreases-loop : goal.decreases-loop
decreases-loop l = deletion_count l.self

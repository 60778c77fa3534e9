use Rattle.std.proofs.Common.{take}
use Rattle.std.specs.FinMap.{empty, insert}
use Rattle.std.specs.List.{fold}
use Rattle.directory.specs.IndexWords.{KnowsAll}
use Rattle.directory.proofs.table.Table.from_pairs.Given as goal

abbrev pub invariant-loop-name : goal.invariant-loop-name
invariant-loop-name l = KnowsAll l.deletions (fold (λ m p. insert m p.0 p.1) empty (take l.name-index l.fn.pairs.items))

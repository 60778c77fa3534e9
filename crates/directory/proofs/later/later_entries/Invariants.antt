use Rattle.directory.specs.IndexWords.{insert_each}
use Rattle.directory.proofs.LaterLaws.{LeavesPart}
use Rattle.directory.proofs.later.later_entries.Given as goal

abbrev pub invariant-loop-name : goal.invariant-loop-name
invariant-loop-name l = LeavesPart l.fn.t l.fn.own (insert_each l.later.items) l.name-iterator

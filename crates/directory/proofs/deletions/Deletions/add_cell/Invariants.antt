use Rattle.std.proofs.Common.{◌≡◌}
use Rattle.directory.specs.declared.deletions.What.TheVariants.{Clear}
use Rattle.directory.specs.IndexWords.{AddsAt, KnowsAt, KnowsMark}
use Rattle.directory.proofs.DeletionSets.{MetOrToCome}
use Rattle.directory.proofs.deletions.Deletions.add_cell.Given as goal

abbrev pub invariant-loop-value : goal.invariant-loop-value
invariant-loop-value l =
    AddsAt l.fn.name l.fn.self l.self
    × KnowsAt l.self l.fn.name (Clear l.fn.attr) l.fn.cell.cleared
    × MetOrToCome l.fn.cell.values (KnowsMark l.self l.fn.name l.fn.attr) l.value-iterator
    × (l.self.most ≡ l.fn.self.most)

use Rattle.std.proofs.Common.{◌≡◌}
use Rattle.directory.specs.declared.deletions.What.TheVariants.{Death}
use Rattle.directory.specs.IndexWords.{AddsAt, KnowsAt, KnowsCell}
use Rattle.directory.proofs.DeletionSets.{MetOrToCome}
use Rattle.directory.proofs.deletions.Deletions.add_entry.Given as goal

abbrev pub invariant-loop-attr : goal.invariant-loop-attr
invariant-loop-attr l =
    AddsAt l.fn.name l.fn.self l.self
    × KnowsAt l.self l.fn.name Death l.fn.entry.death
    × MetOrToCome l.fn.entry.attrs (KnowsCell l.self l.fn.name) l.attr-iterator
    × (l.self.most ≡ l.fn.self.most)

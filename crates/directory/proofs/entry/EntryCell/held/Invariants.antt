use Rattle.std.proofs.Common.{◌≡◌, ◌+◌, ◌≤◌, min}
use Rattle.std.specs.Prelude.{sum_by}
use Rattle.directory.specs.Held.{held_in_entry, held_in_cell, most_held}
use Rattle.directory.proofs.entry.EntryCell.held.Given as goal

abbrev pub invariant-loop-cell : goal.invariant-loop-cell
invariant-loop-cell l = record {
  counted : min (l.sum + sum_by (λ a. held_in_cell a.1) l.cell-iterator) most_held ≡ min (held_in_entry l.self) most_held;
  fits : l.sum ≤ most_held;
}

use Rattle.std.proofs.Common.{◌≡◌, max}
use Rattle.purge_rule.specs.Latest.{greatest_of}
use Rattle.own_stamps.specs.OwnStamps.{own_in_cell, own_in_entry}
use Rattle.own_stamps.proofs.latest.own_in_entry.Given as goal

abbrev pub invariant-loop-cell : goal.invariant-loop-cell
invariant-loop-cell l =
    max l.time (greatest_of (λ a. own_in_cell l.fn.node a.1) l.cell-iterator) ≡ own_in_entry l.fn.node l.entry

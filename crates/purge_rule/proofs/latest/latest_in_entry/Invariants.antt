use Rattle.std.proofs.Common.{◌≡◌, max}
use Rattle.purge_rule.specs.Latest.{greatest_of, latest_in_entry, latest_in_cell}
use Rattle.purge_rule.proofs.latest.latest_in_entry.Given as goal

abbrev pub invariant-loop-cell : goal.invariant-loop-cell
invariant-loop-cell l = max l.time (greatest_of (λ a. latest_in_cell a.1) l.cell-iterator) ≡ latest_in_entry l.entry

use Rattle.std.proofs.Common.{◌≡◌, max}
use Rattle.purge_rule.specs.Latest.{greatest_of, latest_in_cell}
use Rattle.purge_rule.proofs.latest.latest_in_cell.Given as goal

abbrev pub invariant-loop-mark : goal.invariant-loop-mark
invariant-loop-mark l = max l.time (greatest_of (λ v. v.1.stamp.time) l.mark-iterator) ≡ latest_in_cell l.cell

use Rattle.std.proofs.Common.{◌≡◌, max}
use Rattle.purge_rule.specs.Latest.{greatest_of}
use Rattle.own_stamps.specs.OwnStamps.{own_in_cell, own_time}
use Rattle.own_stamps.proofs.latest.own_in_cell.Given as goal

abbrev pub invariant-loop-mark : goal.invariant-loop-mark
invariant-loop-mark l =
    max l.time (greatest_of (λ v. own_time l.fn.node v.1.stamp) l.mark-iterator) ≡ own_in_cell l.fn.node l.cell

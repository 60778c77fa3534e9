use Rattle.std.proofs.Common.{◌≡◌, ◌+◌, ◌-◌, ◌≤◌, take}
use Rattle.cds_stamps.proofs.octet_order.octet_order.Given as goal

abbrev pub invariant-words : goal.invariant-words
invariant-words l = record {
  same : take l.i l.a ≡ take l.i l.b;
  in_range : l.i ≤ l.last + 7;
}

abbrev pub decreases-words : goal.decreases-words
decreases-words l = l.last - l.i

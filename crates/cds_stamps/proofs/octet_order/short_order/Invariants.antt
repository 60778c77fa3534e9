use Rattle.std.proofs.Common.{◌≡◌, take}
use Rattle.cds_stamps.proofs.octet_order.short_order.Given as goal

abbrev pub invariant-singles : goal.invariant-singles
invariant-singles l = take l.i l.a ≡ take l.i l.b

use Rattle.std.proofs.Common.{◌≡◌, ◌+◌, ◌-◌, ◌≤◌, drop, map}
use Rattle.cell_names.specs.Houses.{list_fault}
use Rattle.cell_names.proofs.HouseWalks.{walk_list}
use Rattle.cell_names.proofs.houses.check_others.Given as goal

abbrev pub invariant-loop-i : goal.invariant-loop-i
invariant-loop-i l = record {
  same : walk_list l.master.0 (l.i + 1) (63 - l.i) l.least (map (λ h. h.0) (drop l.i l.others)) ≡ list_fault l.master.0 (map (λ h. h.0) l.others);
  wanted : l.i ≤ 63;
  in_range : l.least ≤ 256;
}

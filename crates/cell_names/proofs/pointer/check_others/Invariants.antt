use Rattle.std.proofs.Common.{◌≡◌, ◌+◌, ◌-◌, ◌≤◌, drop}
use Rattle.cell_names.specs.ChildPointers.{others_fault}
use Rattle.cell_names.proofs.PointerWalks.{walk_others}
use Rattle.cell_names.proofs.pointer.check_others.Given as goal

abbrev pub invariant-loop-i : goal.invariant-loop-i
invariant-loop-i l = record {
  same : walk_others l.master (7 + l.i) (l.count - l.i) l.least (drop l.i l.others) ≡ others_fault l.master 7 l.count l.others;
  wanted : l.i ≤ l.count;
  in_range : l.least ≤ 256;
}

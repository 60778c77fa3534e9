use Rattle.std.proofs.Common.{◌≡◌, ◌==◌, ◌+◌, ◌≤◌, drop}
use Rattle.std.specs.List.{slice_split}
use Rattle.cell_names.specs.FullNames.{slash, components_fault}
use Rattle.cell_names.proofs.NameWalks.{walk_fault}
use Rattle.cell_names.proofs.full_name.check_components.Given as goal

abbrev pub invariant-loop-i : goal.invariant-loop-i
invariant-loop-i l = record {
  same : walk_fault (5 + l.i) l.taken (drop l.i l.octets) ≡ components_fault 5 (slice_split (λ b. b == slash) l.octets);
  short : l.taken ≤ 254;
}

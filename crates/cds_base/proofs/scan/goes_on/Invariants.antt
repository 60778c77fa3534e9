use Rattle.std.proofs.Common.{◌≡◌, ◌≤◌, ◌+◌, true}
use Rattle.std.specs.Prelude.{◌↔◌}
use Rattle.std.specs.List.{prefix_len}
use Rattle.cds_base.specs.LineFaults.{is_printable}
use Rattle.cds_base.proofs.scan.goes_on.Given as goal

abbrev pub invariant-loop-i : goal.invariant-loop-i
invariant-loop-i l = (l.all ≡ true) ↔ (l.len + l.i ≤ prefix_len is_printable l.octets)

use Rattle.std.proofs.Common.{◌≤◌, ◌-◌, length}
use Rattle.std.specs.List.{prefix_len}
use Rattle.cds_base.specs.LineFaults.{is_printable}
use Rattle.cds_base.proofs.scan.printable_len.Given as goal

abbrev pub invariant-strides : goal.invariant-strides
invariant-strides l = l.len ≤ prefix_len is_printable l.octets

abbrev pub decreases-strides : goal.decreases-strides
decreases-strides l = length l.octets - l.len

abbrev pub invariant-singles : goal.invariant-singles
invariant-singles l = l.len ≤ prefix_len is_printable l.octets

abbrev pub decreases-singles : goal.decreases-singles
decreases-singles l = length l.octets - l.len

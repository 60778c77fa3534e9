use Rattle.std.proofs.Common.{◌≡◌, ◌+◌, drop}
use Rattle.cds_stamps.specs.Names.{attr_fault_from}
use Rattle.cds_stamps.proofs.names.check_attr_name.Given as goal

abbrev pub invariant-loop-i : goal.invariant-loop-i
invariant-loop-i l = attr_fault_from (l.i + 1) (drop l.i l.octets) ≡ attr_fault_from 1 l.octets

use Rattle.std.proofs.Common.{◌≡◌, ◌+◌, drop}
use Rattle.cds_stamps.specs.Names.{component_fault}
use Rattle.cds_stamps.proofs.names.check_simple_name.Given as goal

abbrev pub invariant-loop-i : goal.invariant-loop-i
invariant-loop-i l = component_fault (l.i + 1) (l.i + 1) (drop l.i l.octets) ≡ component_fault 1 1 l.octets

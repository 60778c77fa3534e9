use Rattle.std.proofs.Common.{◌≡◌, false, take}
use Rattle.std.specs.List.{list_any}
use Rattle.cds_stamps.specs.Octets.{is_octets}
use Rattle.cell_names.specs.FullNames.{full_name_octets}
use Rattle.ns_groups.proofs.updates.value_of.Given as goal

abbrev pub invariant-loop-value : goal.invariant-loop-value
invariant-loop-value l = list_any (is_octets (full_name_octets l.name)) (take l.value-index l.values) ≡ false

use Rattle.std.proofs.Common.{◌≡◌}
use Rattle.std.specs.FinMap as map
use Rattle.std.specs.BTreeMap.{is_at}
use Rattle.std.specs.Map.{lookup}
use Rattle.cds_stamps.specs.Octets.{octets_cmp}
use Rattle.directory.proofs.attr_map.AttrMap.find.Given as goal

abbrev pub invariant-loop-name : goal.invariant-loop-name
invariant-loop-name l = lookup (is_at (octets_cmp l.octets)) l.name-iterator ≡ map.get l.self l.octets

use Rattle.std.proofs.Common.{◌≡◌, map, take}
use Rattle.std.specs.Prelude.{filter}
use Rattle.std.specs.Option.{option_copied}
use Rattle.server_entries.specs.Exports.{tower_goes}
use Rattle.server_entries.proofs.exports.towers_to_go.Given as goal

abbrev pub invariant-loop-value : goal.invariant-loop-value
invariant-loop-value l = map (λ v. v.now) l.list.items ≡ filter (tower_goes (option_copied l.interface)) (take l.value-index l.towers)

use Rattle.std.proofs.Common.{◌≡◌, map, take}
use Rattle.std.specs.List.{filter_map}
use Rattle.server_entries.specs.Clients.{binding_in}
use Rattle.server_entries.proofs.client.Wanted.bindings_in.Given as goal

abbrev pub invariant-loop-value : goal.invariant-loop-value
invariant-loop-value l = l.list.items ≡ filter_map (binding_in l.self l.object) (map (λ v. v.now) (take l.value-index l.towers))

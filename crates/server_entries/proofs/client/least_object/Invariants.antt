use Rattle.std.proofs.Common.{◌≡◌, map, take}
use Rattle.server_entries.specs.Clients.{least_object}
use Rattle.server_entries.proofs.client.least_object.Given as goal

abbrev pub invariant-loop-value : goal.invariant-loop-value
invariant-loop-value l = l.least ≡ least_object (map (λ v. v.now) (take l.value-index l.held))

use Rattle.std.proofs.Common.{◌≡◌, map, take}
use Rattle.server_entries.specs.Clients.{objects_in}
use Rattle.ns_inquire.proofs.servers.objects_of.Given as goal

abbrev pub invariant-loop-value : goal.invariant-loop-value
invariant-loop-value l = l.found.items ≡ objects_in (map (λ value. value.now) (take l.value-index l.values))

use Rattle.std.proofs.Common.{◌≡◌, map, take}
use Rattle.server_entries.proofs.client.all_of.Given as goal

abbrev pub invariant-loop-value : goal.invariant-loop-value
invariant-loop-value l = map (λ v. v.now) l.all.items ≡ take l.value-index l.values

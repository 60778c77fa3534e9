use Rattle.std.proofs.Common.{◌≡◌, map, filter, take}
use Rattle.ns_profiles.specs.Profiles.{is_sought}
use Rattle.ns_profiles.proofs.search.sought.Given as goal

abbrev pub invariant-loop-value : goal.invariant-loop-value
invariant-loop-value l = map (λ value. value.now) l.found.items ≡ filter (is_sought l.interface) (map (λ value. value.now) (take l.value-index l.values))

use Rattle.std.proofs.Common.{◌≡◌, map, take}
use Rattle.ns_profiles.specs.Elements.{element_of_octets}
use Rattle.ns_profiles.proofs.search.members_of.Given as goal

abbrev pub invariant-loop-value : goal.invariant-loop-value
invariant-loop-value l = l.members.items ≡ map (λ value. (element_of_octets value.now).member) (take l.value-index l.values)

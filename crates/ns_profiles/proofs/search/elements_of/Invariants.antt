use Rattle.std.proofs.Common.{◌≡◌, map, filter, take}
use Rattle.std.specs.Option.{option_copied}
use Rattle.ns_profiles.specs.Profiles.{is_element}
use Rattle.ns_profiles.proofs.search.elements_of.Given as goal

abbrev pub invariant-loop-value : goal.invariant-loop-value
invariant-loop-value l = map (λ value. value.now) l.found.items ≡ filter (is_element (option_copied l.interface) l.member) (take l.value-index l.values)

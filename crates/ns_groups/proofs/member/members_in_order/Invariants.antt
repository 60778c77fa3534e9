use Rattle.std.proofs.Common.{◌≡◌, map, filter, take}
use Rattle.cell_names.specs.FullNames.{components_of, is_full_name}
use Rattle.ns_groups.proofs.member.members_in_order.Given as goal

abbrev pub invariant-loop-value : goal.invariant-loop-value
invariant-loop-value l = l.names.items ≡ map components_of (filter is_full_name (map (λ value. value.now) (take l.value-index l.values)))

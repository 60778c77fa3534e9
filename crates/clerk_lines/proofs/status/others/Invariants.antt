use Rattle.std.proofs.Common.{◌≡◌, map, take, not}
use Rattle.std.specs.Prelude.{filter}
use Rattle.clerk_lines.proofs.status.others.Given as goal

abbrev pub invariant-loop-member : goal.invariant-loop-member
invariant-loop-member l = map (λ h. h.0) l.others.items ≡ map (λ o. o.house.0) (filter (λ o. not o.is_master) (take l.member-index l.members))

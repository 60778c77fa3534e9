use Rattle.std.proofs.Common.{◌≡◌, map, drop}
use Rattle.std.specs.Prelude.{◌==◌}
use Rattle.std.specs.List.{list_any}
use Rattle.cds_clerk.proofs.heard.is_among.Given as goal

abbrev pub invariant-loop-other : goal.invariant-loop-other
invariant-loop-other l = list_any (λ y. y == l.house.0) (map (λ h. h.0) l.houses) ≡ list_any (λ y. y == l.house.0) (map (λ h. h.0) (drop l.other-index l.houses))

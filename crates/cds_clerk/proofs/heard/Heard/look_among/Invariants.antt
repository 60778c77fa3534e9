use Rattle.std.proofs.Common.{◌≡◌, map, drop}
use Rattle.std.specs.Prelude.{Option}
use Rattle.resolver.specs.Readers.{Sight}
use Rattle.cds_clerk.specs.Heards.{seen_among}
use Rattle.cds_clerk.proofs.heard.Heard.look_among.Given as goal

-- the houses so far count for nothing
abbrev pub invariant-loop-house : goal.invariant-loop-house
invariant-loop-house l = (later : Option Sight) → seen_among l.self.answers l.dir.0 l.name (map (λ h. h.0) l.houses) later
    ≡ seen_among l.self.answers l.dir.0 l.name (map (λ h. h.0) (drop l.house-index l.houses)) later

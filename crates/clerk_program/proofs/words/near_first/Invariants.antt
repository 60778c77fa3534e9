use Rattle.std.proofs.Common.{◌≡◌, take, not}
use Rattle.std.specs.Prelude.{filter}
use Rattle.clerk_program.specs.ProgramWords.{is_near}
use Rattle.clerk_program.proofs.words.near_first.Given as goal

-- the near one among the houses that were looked at, and the others
abbrev pub invariant-loop-house : goal.invariant-loop-house
invariant-loop-house l =
    (l.first.items ≡ filter (is_near l.near) (take l.house-index l.houses)) × (l.others.items ≡ filter (λ h. not (is_near l.near h)) (take l.house-index l.houses))

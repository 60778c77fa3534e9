-- Counts that stop at the greatest number.
use Rattle.std.proofs.Common.{◌≡◌, ℕ, ◌+◌, ◌≤◌, min, arith}
use Rattle.directory.specs.Held.{most_held}

-- with nothing left to count
pub all_counted : (sum rest all : ℕ) → rest ≡ 0 → sum ≤ most_held → min (sum + rest) most_held ≡ min all most_held → sum ≡ min all most_held
all_counted sum rest all none fits counted = omega arith

-- Counts that rise by one at a time, and what a count of failures says of an answer. Own.
use Rattle.std.specs.Prelude.{◌≡◌, ℕ, ◌+◌, ◌-◌, ◌^◌, ◌≤◌, min, OnErr, OnOk}
use Rattle.std.specs.declared.result.Result.{Result}

-- the next number of a count, which stays at the greatest u64 once it is there
abbrev pub next_count : ℕ → ℕ
next_count count = min (count + 1) (2 ^ 64 - 1)

-- the count rose, or is at the greatest u64, where it can't rise
abbrev pub Rose : ℕ → ℕ → Type 0
Rose before now = next_count before ≤ now

-- a call's error comes only where the count of failures rose, and its answer leaves that count as
-- it was
pub record HasCause {T E : Type 0} (before now : ℕ) (result : Result T E) : Type 0 where
  pub later : before ≤ now
  pub answered : OnOk result (now ≡ before)
  pub failed : OnErr result (Rose before now)

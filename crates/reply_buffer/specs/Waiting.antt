-- Replies that wait to be written.
use Rattle.std.specs.Prelude.{◌≡◌, ◌⊎◌, ℕ, ◌<◌, Bool, IsTrue, List, [], ◌++◌, length, Option}
use Rattle.reply_buffer.specs.declared.limits.TheConstants.{MOST_WAITING}
use Rattle.std.specs.Io.KnownBytes.{Appends}

-- a part of what waited was written; if anything still waits, it is little, and the next line is
-- there already
pub record Flushes (old new : Option (List ℕ)) (waited waits : List ℕ) (ready : Bool) : Type 0 where
  pub sent : List ℕ
  pub written : Appends old new sent
  pub split : waited ≡ sent ++ waits
  pub whole : (waits ≡ []) ⊎ (IsTrue ready × (length waits < MOST_WAITING))

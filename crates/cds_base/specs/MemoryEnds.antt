-- What a source and a sink over memory are to their callers. Own.
use Rattle.std.specs.Prelude.{ℕ, List}

-- a source over memory: the octets still to come, the numbers of the calls that fail, counted from
-- 1, the most octets that one read gives, the calls so far, and how many of them failed
pub record MemorySource : Type 0 where
  pub left : List ℕ
  pub failing : List ℕ
  pub most : ℕ
  pub calls : ℕ
  pub faults : ℕ

-- a sink over memory: the octets written, the most that it holds, and the rest as for a source
pub record MemorySink : Type 0 where
  pub written : List ℕ
  pub room : ℕ
  pub failing : List ℕ
  pub most : ℕ
  pub calls : ℕ
  pub faults : ℕ

-- What a window of octets is to its callers. Own.
use Rattle.std.specs.Prelude.{ℕ, List}

-- the octets held, and how many octets there is room for
pub record WindowOctets : Type 0 where
  pub octets : List ℕ
  pub room : ℕ

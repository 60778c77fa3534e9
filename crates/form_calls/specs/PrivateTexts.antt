-- What a text that is kept is to its callers. Own.
use Rattle.std.specs.Prelude.{ℕ, List}

-- its octets, and how often there was no memory for more
pub record KeptText : Type 0 where
  pub octets : List ℕ
  pub faults : ℕ

-- What octets that are held say of those that a source gave. Own.
use Rattle.std.specs.Prelude.{◌≡◌, List, ℕ, ◌++◌}
use Rattle.std.specs.declared.option.Option.{Option}
use Rattle.std.specs.Io.KnownBytes.{Consumes}

-- the octets grew at their end, by what was read from a source
pub record GrowsByReading (left left' : Option (List ℕ)) (octets octets' : List ℕ) : Type 0 where
  pub read : List ℕ
  pub taken : Consumes left left' read
  pub grown : octets' ≡ octets ++ read

-- Names of segments.
use Rattle.std.proofs.Common.{◌≡◌, ◌≢◌, ◌<◌, ◌^◌, ℕ, List, Option, Some, None}
use Rattle.std.specs.Prelude.{IfNone, decimal}

-- a name of which no number was read
pub none_parsed : (name : List ℕ) (o : Option ℕ) → ((n : ℕ) → n < 2 ^ 64 → name ≡ decimal n → None ≡ Some n)
    → IfNone o ((n : ℕ) → n < 2 ^ 64 → name ≢ decimal n)
none_parsed name (Some m) none = tt
none_parsed name None none = λ n small is. let same = none n small is in absurd (cc)

-- A line of some words.
use Rattle.std.proofs.Common.{ℕ, List}
use Rattle.std.specs.Prelude.{OnOk, Result, Ok, Err}

-- what holds of words, holds of some
pub of_some : {T E : Type 0} (P : List ℕ → Type 0) (r : Result T E) (words : List ℕ) → OnOk r (P words) → OnOk r ((w : List ℕ) × P w)
of_some P (Ok x) words holds = (words, holds)
of_some P (Err e) words holds = tt

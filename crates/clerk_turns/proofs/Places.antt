-- Where the first one is that passes a test, and what is there.
use Rattle.std.proofs.Common.{◌≡◌, ◌<◌, ℕ, zero, suc, Bool, true, false, cond, List, [], ◌∷◌, length, refl, sym, ap, arith, tests, slice_get, slice_index_or, position, nat_lt, Option, Some, None}
use Rattle.std.specs.List.{position_or_len}

-- it is in the list
pub position_within : {X : Type 0} (p : X → Bool) (xs : List X) (at : ℕ) → position p xs ≡ Some at → at < length xs
position_within {X} p xs at = by_test (nat_lt (position_or_len p xs) (length xs)) refl
  where
    by_test : (b : Bool) → nat_lt (position_or_len p xs) (length xs) ≡ b → cond b (Some (position_or_len p xs)) None ≡ Some at → at < length xs
    by_test true within is = let same : position_or_len p xs ≡ at = cc (is) in grind (arith, tests, within, same)
    by_test false within is = absurd (cc (is))

-- what is at a place of a list
pub there_at : {X : Type 0} (xs : List X) (i : ℕ) (x : X) → i < length xs → x ≡ slice_index_or xs i x → slice_get xs i ≡ Some x
there_at [] i x within is = absurd (omega (arith, within))
there_at (y ∷ ys) zero x within is = ap Some (sym is)
there_at (y ∷ ys) (suc i) x within is = there_at ys i x (omega (arith, within)) is

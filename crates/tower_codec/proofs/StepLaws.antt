-- Steps of a reading that did not fail, and of one that did.
use Rattle.std.proofs.Common.{◌≡◌, Bool, true, false, cond, Option, Some, None, Result, Ok, Err, ◌⊎◌, inl, inr, refl}
use Rattle.std.specs.Option.{ok_or, option_map}
use Rattle.tower_codec.specs.ReadingSteps.{◌>>=◌}

-- What two readings found is the same.
pub ok_is : {A E : Type 0} (x y : A) → ◌≡◌ {A = Result A E} (Ok x) (Ok y) → x ≡ y
ok_is x y e = cc

-- Two steps in a row found something: so did each.
pub bind_ok : {A B E : Type 0} (r : Result A E) (f : A → Result B E) (y : B) → (r >>= f) ≡ Ok y → (x : A) × (r ≡ Ok x) × (f x ≡ Ok y)
bind_ok (Ok x) f y e = (x, refl, e)
bind_ok (Err d) f y e = absurd cc

-- Two steps in a row failed: so did the first, or the second after it.
pub bind_err : {A B E : Type 0} (r : Result A E) (f : A → Result B E) (d : E) → (r >>= f) ≡ Err d → (r ≡ Err d) ⊎ ((x : A) × (r ≡ Ok x) × (f x ≡ Err d))
bind_err (Ok x) f d e = inr (x, refl, e)
bind_err (Err c) f d e = inl cc

-- A step after a guard found something: the guard held.
pub guard_ok : {A E : Type 0} (b : Bool) (d : E) (x : Result A E) (y : A) → cond b (Err d) x ≡ Ok y → (b ≡ false) × (x ≡ Ok y)
guard_ok true d x y e = absurd cc
guard_ok false d x y e = (refl, e)

-- What is found for sure was there.
pub ok_or_ok : {A E : Type 0} (o : Option A) (d : E) (y : A) → ok_or o d ≡ Ok y → o ≡ Some y
ok_or_ok None d y e = absurd cc
ok_or_ok (Some x) d y e = cc

-- What was found, with what follows it.
pub pair_ok : {A C E : Type 0} (o : Option A) (c : C) (d : E) (y : A × C) → ok_or (option_map (λ x. (x, c)) o) d ≡ Ok y → (o ≡ Some y.0) × (c ≡ y.1)
pair_ok None c d y e = absurd cc
pair_ok {A} {C} (Some x) c d y e =
    let same : (x, c) ≡ y = ok_is (x, c) y e in
    (λ i. Some ((same i).0), λ i. (same i).1)

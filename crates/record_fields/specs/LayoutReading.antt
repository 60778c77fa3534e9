-- Reading octets by a layout, field by field.
use Rattle.std.specs.Prelude.{ℕ, List, length, take, drop, Option, Some, None, Result, Ok, Err, nat_lt, if◌then◌else◌}
use Rattle.record_fields.specs.declared.fault.Rule.{Rule}
use Rattle.record_fields.specs.declared.fault.Rule.TheVariants.{Short}
use Rattle.record_fields.specs.declared.fault.Broken.{Broken}
use Rattle.record_fields.specs.Layouts.{Layout, done, field, next}

infixl 10 ◌>>=◌
-- the next step of a reading that has not failed
abbrev pub ◌>>=◌ : {A B E : Type 0} → Result A E → (A → Result B E) → Result B E
(Ok x) >>= f = f x
(Err e) >>= f = Err e

-- what is read of a whole field, of which so many octets and more are left, by the rule that it
-- breaks
abbrev pub by_rule : {A : Type 0} → Option Rule → ℕ → A → List ℕ → Result (A × List ℕ) Broken
by_rule None left value rest = Ok (value, rest)
by_rule (Some rule) left value rest = Err (record { rule = rule; left = left })

-- the value of the octets at the front, and what follows them; or the first field that breaks a
-- rule
abbrev pub read : {A : Type 0} → Layout A → List ℕ → Result (A × List ℕ) Broken
read (done a) octets = Ok (a, octets)
read (field size says rule) octets =
    if nat_lt (length octets) size then Err (record { rule = Short; left = 0 })
    else by_rule (rule (says (take size octets))) (length octets) (says (take size octets)) (drop size octets)
read (next first second) octets = read first octets >>= λ y. read (second y.0) y.1

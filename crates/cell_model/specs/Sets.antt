-- Sets of marks: lists in which neither order nor repeats count.
use Rattle.std.specs.Prelude.{◌≡◌, ◌⊎◌, ℕ, Bool, true, false, ◌||◌, ◌==◌, List, [], ◌∷◌}
use Rattle.cds_stamps.specs.declared.stamp.Stamp.{Stamp}
use Rattle.cds_stamps.specs.Stamps.{is_up_to}

-- the value is in the list
abbrev pub In : {A : Type 0} → A → List A → Type 0
In x [] = ⊥
In x (y ∷ ys) = (x ≡ y) ⊎ In x ys

-- the number is in the list
abbrev pub has : ℕ → List ℕ → Bool
has x [] = false
has x (y ∷ ys) = (x == y) || has x ys

-- each value of a is in b
abbrev pub IsPart : {A : Type 0} → List A → List A → Type 0
IsPart {A} a b = (k : A) → In k a → In k b

-- s is not later than t
abbrev pub IsUpTo : Stamp → Stamp → Type 0
IsUpTo s t = is_up_to t s ≡ true

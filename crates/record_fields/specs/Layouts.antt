-- Layouts: fields of octets, one after another, where what is in one may decide what comes next.
use Rattle.std.specs.Prelude.{◌≡◌, ◌⊎◌, ℕ, ◌<◌, Bool, true, false, List, ◌++◌, length, Option, Some, None}
use Rattle.record_fields.specs.declared.fault.Rule.{Rule}
use Rattle.record_fields.specs.declared.fault.Rule.TheVariants.{Short}

-- a layout of octets that say an A: no field, and what that says; one field of so many octets, what
-- they say, and the rule that this breaks, if any; or one layout and then another
pub data Layout : Type 0 → Type 1 where
  done : {A : Type 0} → A → Layout A
  field : {A : Type 0} → (size : ℕ) → (says : List ℕ → A) → (rule : A → Option Rule) → Layout A
  next : {A B : Type 0} → Layout B → (B → Layout A) → Layout A

-- one of two layouts
abbrev pub choose : {A : Type 0} → Bool → Layout A → Layout A → Layout A
choose true a b = a
choose false a b = b

-- octets of this layout that say `value` stand in front of the rest
abbrev pub Stands : {A : Type 0} → Layout A → List ℕ → A → List ℕ → Type 0
Stands (done a) octets value rest = (a ≡ value) × (octets ≡ rest)
Stands (field size says rule) octets value rest = (own : List ℕ) × (octets ≡ own ++ rest) × (length own ≡ size) × (says own ≡ value) × (rule value ≡ None)
Stands (next {B = B} first second) octets value rest = (b : B) × (between : List ℕ) × Stands first octets b between × Stands (second b) between value rest

-- whole lawful fields stand in front, and then a field is due: it is whole and breaks this rule, or
-- is not whole. `left` is how many octets are left from that field on, and 0 where it is not whole
abbrev pub Breaks : {A : Type 0} → Layout A → List ℕ → Rule → ℕ → Type 0
Breaks (done a) octets broken left = ⊥
Breaks (field size says rule) octets broken left =
    ((length octets < size) × (broken ≡ Short) × (left ≡ 0))
    ⊎ ((own : List ℕ) × (rest : List ℕ) × (octets ≡ own ++ rest) × (length own ≡ size) × (rule (says own) ≡ Some broken) × (left ≡ length octets))
Breaks (next {B = B} first second) octets broken left =
    Breaks first octets broken left ⊎ ((b : B) × (between : List ℕ) × Stands first octets b between × Breaks (second b) between broken left)

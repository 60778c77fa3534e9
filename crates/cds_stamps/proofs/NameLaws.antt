-- Octets without a fault are those of the grammar.
use Rattle.std.proofs.Common.{◌≡◌, ℕ, ◌+◌, ◌≤◌, Bool, true, false, List, [], ◌∷◌, length, refl, arith}
use Rattle.std.specs.Prelude.{◌↔◌, IsTrue, Option, Some, None, not, ◌==◌, ◌||◌, if◌then◌else◌}
use Rattle.std.specs.List.{AllByRecursion}
use Rattle.std.proofs.lemmas.List.Elements.{All-from_recursion, recursion_from_All}
use Rattle.cds_stamps.specs.Names.{is_name_octet, component_fault, simple_name_fault, IsSimpleName, is_attr_octet, attr_fault_from, attr_fault, IsAttrName}

-- a test that finds no fault fails
pub no_fault : {E : Type 0} (test : Bool) (fault : E) (rest : Option E) → (if test then Some fault else rest) ≡ None → (test ≡ false) × (rest ≡ None)
no_fault true fault rest e = cc
no_fault false fault rest e = (refl, e)

holds : (t : Bool) → not t ≡ false → IsTrue t
holds true e = refl
holds false e = cc

-- each octet is one of names, and the 255th is not there
pub component_lawful : (place n : ℕ) (bs : List ℕ) → n ≤ 255 → component_fault place n bs ≡ None
    → AllByRecursion (λ b. IsTrue (is_name_octet b)) bs × (n + length bs ≤ 255)
component_lawful place n [] h e = (tt, omega arith)
component_lawful place n (b ∷ bs) h e =
    let octet = no_fault (not (is_name_octet b)) _ _ e in
    let early = no_fault (n == 255) _ _ octet.1 in
    let more : n + 1 ≤ 255 = grind (arith, early.0) in
    let rest = component_lawful (place + 1) (n + 1) bs more early.1 in
    ((holds (is_name_octet b) octet.0, rest.0), omega (arith, rest.1))

-- octets of names that are not too many have no fault
pub component_none : (place n : ℕ) (bs : List ℕ) → AllByRecursion (λ b. IsTrue (is_name_octet b)) bs → n + length bs ≤ 255 → component_fault place n bs ≡ None
component_none place n [] each short = refl
component_none place n (b ∷ bs) each short =
    let before : (n == 255) ≡ false = grind arith in
    rw (each.0, before) (component_none (place + 1) (n + 1) bs each.1 (omega arith))

-- no fault is found exactly in simple names
pub simple_name_laws : (octets : List ℕ) → (simple_name_fault octets ≡ None) ↔ IsSimpleName octets
simple_name_laws [] = (λ e. cc, λ name. absurd (omega (arith, name.filled)))
simple_name_laws (b ∷ bs) = (
  λ e.
      let lawful = component_lawful 1 1 (b ∷ bs) (omega arith) e in
      record { filled = omega arith; short = omega (arith, lawful.1); each = All-from_recursion _ (b ∷ bs) lawful.0 },
  λ name. component_none 1 1 (b ∷ bs) (recursion_from_All _ (b ∷ bs) name.each) (omega (arith, name.short)),
)

attr_lawful : (place : ℕ) (bs : List ℕ) → place ≤ 32 → attr_fault_from place bs ≡ None
    → AllByRecursion (λ b. IsTrue (is_attr_octet b)) bs × (place + length bs ≤ 32)
attr_lawful place [] h e = (tt, omega arith)
attr_lawful place (b ∷ bs) h e =
    let tests = no_fault (not (is_attr_octet b) || (place == 32)) _ _ e in
    let octet : not (is_attr_octet b) ≡ false = grind (arith, tests.0) in
    let more : place + 1 ≤ 32 = grind (arith, tests.0) in
    let rest = attr_lawful (place + 1) bs more tests.1 in
    ((holds (is_attr_octet b) octet, rest.0), omega (arith, rest.1))

attr_none : (place : ℕ) (bs : List ℕ) → AllByRecursion (λ b. IsTrue (is_attr_octet b)) bs → place + length bs ≤ 32 → attr_fault_from place bs ≡ None
attr_none place [] each short = refl
attr_none place (b ∷ bs) each short =
    let before : (place == 32) ≡ false = grind arith in
    rw (each.0, before) (attr_none (place + 1) bs each.1 (omega arith))

-- no fault is found exactly in attribute names
pub attr_name_laws : (octets : List ℕ) → (attr_fault octets ≡ None) ↔ IsAttrName octets
attr_name_laws [] = (λ e. cc, λ name. absurd (omega (arith, name.filled)))
attr_name_laws (b ∷ bs) = (
  λ e.
      let lawful = attr_lawful 1 (b ∷ bs) (omega arith) e in
      record { filled = omega arith; short = omega (arith, lawful.1); each = All-from_recursion _ (b ∷ bs) lawful.0 },
  λ name. attr_none 1 (b ∷ bs) (recursion_from_All _ (b ∷ bs) name.each) (omega (arith, name.short)),
)

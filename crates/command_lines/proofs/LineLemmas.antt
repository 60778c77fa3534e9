-- Printable octets are a line that a script can have.
use Rattle.std.proofs.Common.{◌≡◌, ◌≢◌, ℕ, ◌+◌, ◌≤◌, Bool, true, false, List, [], ◌∷◌, length, refl, arith}
use Rattle.std.specs.Prelude.{None, nat_lt, ◌==◌}
use Rattle.std.specs.List.{list_all}
use Rattle.std.proofs.lemmas.Bool.Decides.{nat_tests}
use Rattle.std.proofs.lemmas.Bool.{and_from, and_parts}
use Rattle.cds_base.specs.LineFaults.{is_printable, fault_at, AreClean, IsLine}

no_fault : (number place c : ℕ) → number ≤ 16777216 → place ≤ 4096 → is_printable c ≡ true → (c ≢ 10) × (fault_at number place c ≡ None)
unfolding fault_at
no_fault number place c few within shown =
    let no_end : (c == 10) ≡ false = grind (arith, nat_tests) in
    let near : nat_lt 4096 place ≡ false = grind (arith, nat_tests) in
    let short : nat_lt 16777216 number ≡ false = grind (arith, nat_tests) in
    (λ e. absurd (ten_ends c e no_end), rw (no_end, near, shown, short) refl)
  where
    ten_ends : (c : ℕ) → c ≡ 10 → (c == 10) ≡ false → ⊥
    ten_ends c e no_end = grind (arith, nat_tests)

shown_clean : (number place : ℕ) (text : List ℕ) → number ≤ 16777216 → place + length text ≤ 4097 → list_all is_printable text ≡ true → AreClean number place text
shown_clean number place [] few within shown = tt
shown_clean number place (c ∷ cs) few within shown =
    let parts = and_parts (is_printable c) (list_all is_printable cs) shown in
    let one = no_fault number place c few (omega (arith, within)) parts.0 in
    (one.0, one.1, shown_clean number (place + 1) cs few (omega (arith, within)) parts.1)

end_fits : (number place : ℕ) → number ≤ 16777216 → fault_at number place 10 ≡ None
unfolding fault_at
end_fits number place few = let short : nat_lt 16777216 number ≡ false = grind (arith, nat_tests) in rw short refl

-- printable octets, not too many, are a line of each number that lines have
pub printable_line : (octets : List ℕ) → length octets ≤ 4096 → list_all is_printable octets ≡ true → (number : ℕ) → number ≤ 16777216 → IsLine number octets
printable_line octets short shown number few = (
  shown_clean number 1 octets few (omega (arith, short)) shown,
  end_fits number (length octets + 1) few,
)

-- what is no fault is printable, and at a place that a line has
no_fault_is : (number place octet : ℕ) → octet ≢ 10 → fault_at number place octet ≡ None → (place ≤ 4096) × (is_printable octet ≡ true)
unfolding fault_at
no_fault_is number place octet other none = by (octet == 10) (nat_lt 4096 place) (is_printable octet) refl refl refl
  where
    by : (end long shown : Bool) → (octet == 10) ≡ end → nat_lt 4096 place ≡ long → is_printable octet ≡ shown → (place ≤ 4096) × (is_printable octet ≡ true)
    by true long shown ends is are = absurd (other (grind (arith, nat_tests, ends)))
    by false true shown ends is are = let some = rw (ends, is) at none in absurd (cc (some))
    by false false false ends is are = let some = rw (ends, is, are) at none in absurd (cc (some))
    by false false true ends is are = (grind (arith, nat_tests, is), are)

clean_short : (number place : ℕ) (octets : List ℕ) → place ≤ 4097 → AreClean number place octets → place + length octets ≤ 4097
clean_short number place [] near clean = omega (arith, near)
clean_short number place (c ∷ cs) near clean =
    let one = (no_fault_is number place c clean.0 clean.1).0 in
    let rest = clean_short number (place + 1) cs (omega (arith, one)) clean.2 in
    omega (arith, rest)

clean_shown : (number place : ℕ) (octets : List ℕ) → AreClean number place octets → list_all is_printable octets ≡ true
clean_shown number place [] clean = refl
clean_shown number place (c ∷ cs) clean =
    and_from (is_printable c) (list_all is_printable cs) (no_fault_is number place c clean.0 clean.1).1 (clean_shown number (place + 1) cs clean.2)

-- a line of a script is printable, and not too long
pub line_short : (octets : List ℕ) → IsLine 1 octets → length octets ≤ 4096
line_short octets is = let all = clean_short 1 1 octets (omega arith) is.0 in omega (arith, all)

pub line_shown : (octets : List ℕ) → IsLine 1 octets → list_all is_printable octets ≡ true
line_shown octets is = clean_shown 1 1 octets is.0

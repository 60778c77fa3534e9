-- Bits of masks, and tests at the places below a number.
use Rattle.std.proofs.Common.{◌≡◌, ℕ, zero, suc, ◌-◌, ◌*◌, ◌/◌, ◌%◌, ◌^◌, ◌<◌, ◌≤◌, Bool, true, false, ◌&&◌}
use Rattle.std.proofs.Common.{◌||◌, ◌==◌, min, max, refl, sym, ap, ◌∙◌, ◌⊎◌, inl, inr, arith, bit_and, bit_or, eq-eqb, w64}
use Rattle.std.specs.Int.{bit_at}
use Rattle.std.proofs.lemmas.Bool.{cases_eq, cases_lt, and_parts, eqb-true}
use Rattle.std.proofs.lemmas.Nat.Bits.{bit_at_or, bit_at_and, bit_at-lt, bit_at_ones, bit_at_ones_above}
use Rattle.std.proofs.lemmas.Nat.Bits.{bit_at_set_same, bit_at_set_other, bit_at-zero, ones_shr, same_from_bits}
use Rattle.cds_stamps.specs.Places.{each_place}

-- places that are one, and places that are not
pub same_place : (p q : ℕ) → p ≡ q → (p == q) ≡ true
same_place p q e = eq-eqb p q e

other_bool : (p q : ℕ) (b : Bool) → (p == q) ≡ b → (p ≡ q → ⊥) → b ≡ false
other_bool p q true e ne = absurd (ne (grind arith))
other_bool p q false e ne = refl

-- two places that are not one
pub other_place : (p q : ℕ) → (p ≡ q → ⊥) → (p == q) ≡ false
other_place p q ne = other_bool p q (p == q) refl ne

true_right : (b : Bool) → (b || true) ≡ true
true_right true = refl
true_right false = refl

false_right : (b : Bool) → (b || false) ≡ b
false_right true = refl
false_right false = refl

-- a test with one place more
one_more : (old new b : Bool) → b ≡ true → new ≡ true → new ≡ (old || b)
one_more old new b e f = f ∙ sym (true_right old) ∙ ap (λ x. old || x) (sym e)

as_before : (old new b : Bool) → b ≡ false → new ≡ old → new ≡ (old || b)
as_before old new b e f = f ∙ sym (false_right old) ∙ ap (λ x. old || x) (sym e)

-- a bit that is set beside those of a number
pub with_bit : (n place p : ℕ) → place < 64 → (bit_at (bit_or n (1 * 2 ^ place % 2 ^ 64)) p == 1) ≡ (bit_at n p == 1 || p == place)
with_bit n place p within = elim (cases_eq p place) [ inl e ↦ here e | inr ne ↦ elsewhere ne ]
  where
    here : p ≡ place → (bit_at (bit_or n (1 * 2 ^ place % 2 ^ 64)) p == 1) ≡ (bit_at n p == 1 || p == place)
    here e = one_more _ _ _ (same_place p place e) (same_place _ 1 (ap (bit_at (bit_or n (1 * 2 ^ place % 2 ^ 64))) e ∙ bit_at_set_same w64 n place within))

    elsewhere : (p ≡ place → ⊥) → (bit_at (bit_or n (1 * 2 ^ place % 2 ^ 64)) p == 1) ≡ (bit_at n p == 1 || p == place)
    elsewhere ne = as_before _ _ _ (other_place p place ne) (ap (λ x. x == 1) (bit_at_set_other w64 n place within p ne))

-- a bit alone
pub one_bit : (place p : ℕ) → place < 64 → (bit_at (1 * 2 ^ place % 2 ^ 64) p == 1) ≡ (p == place)
one_bit place p within = ap (λ x. x == 1) (sym of_zero) ∙ with_bit 0 place p within ∙ ap (λ x. x == 1 || p == place) (bit_at-zero p)
  where
    of_zero : bit_at (bit_or 0 (1 * 2 ^ place % 2 ^ 64)) p ≡ bit_at (1 * 2 ^ place % 2 ^ 64) p
    of_zero = bit_at_or 0 (1 * 2 ^ place % 2 ^ 64) p ∙ ap (λ x. max x (bit_at (1 * 2 ^ place % 2 ^ 64) p)) (bit_at-zero p) ∙ omega arith

-- ---- tests at each place

-- a test that holds at each of the first places holds at every one
pub at_each_place : (n : ℕ) (test : ℕ → Bool) → each_place n test ≡ true → (p : ℕ) → p < n → test p ≡ true
at_each_place zero test e p below = absurd (omega arith)
at_each_place (suc n) test e p below =
    let parts : (each_place n test ≡ true) × (test n ≡ true) = and_parts (each_place n test) (test n) e in
    elim (cases_eq p n) [ inl same ↦ ap test same ∙ parts.1 | inr other ↦ at_each_place n test parts.0 p (omega arith) ]

-- and the other way round
pub each_place-from : (n : ℕ) (test : ℕ → Bool) → ((p : ℕ) → p < n → test p ≡ true) → each_place n test ≡ true
each_place-from zero test each = refl
each_place-from (suc n) test each =
    ap (λ b. b && test n) (each_place-from n test (λ p below. each p (omega arith))) ∙ each n (omega arith)

-- two tests that agree at the first n places
pub each_place-same : (n : ℕ) (test other : ℕ → Bool) → ((p : ℕ) → test p ≡ other p) → each_place n test ≡ each_place n other
each_place-same zero test other same = refl
each_place-same (suc n) test other same = ap (λ b. b && test n) (each_place-same n test other same) ∙ ap (λ b. each_place n other && b) (same n)

-- a place at which the test does not hold
pub each_place-false : (n : ℕ) (test : ℕ → Bool) (p : ℕ) → p < n → test p ≡ false → each_place n test ≡ false
each_place-false n test p below fails = at (each_place n test) refl
  where
    at : (b : Bool) → each_place n test ≡ b → b ≡ false
    at true e = absurd (no_both (sym (at_each_place n test e p below) ∙ fails))
      where
        no_both : true ≡ false → ⊥
        no_both x = absurd cc
    at false e = refl

-- ---- masks of so many ones

same_bools : (a b : Bool) → (a ≡ true → b ≡ true) → (b ≡ true → a ≡ true) → a ≡ b
same_bools true b there back = sym (there refl)
same_bools false true there back = back refl
same_bools false false there back = refl

-- the lowest bits of a number that has them all
all_ones : (n members : ℕ) → bit_and n (2 ^ members - 1) ≡ 2 ^ members - 1 → (p : ℕ) → p < members → (bit_at n p == 1) ≡ true
all_ones n members e p below =
    let one : bit_at (2 ^ members - 1) p ≡ 1 = bit_at_ones members p below in
    let both : min (bit_at n p) (bit_at (2 ^ members - 1) p) ≡ bit_at (2 ^ members - 1) p = sym (bit_at_and n (2 ^ members - 1) p) ∙ ap (λ m. bit_at m p) e in
    same_place (bit_at n p) 1 (omega (arith, bit_at-lt n p))

ones_all : (n members : ℕ) → ((p : ℕ) → p < members → (bit_at n p == 1) ≡ true) → bit_and n (2 ^ members - 1) ≡ 2 ^ members - 1
ones_all n members each = same_from_bits _ _ (λ i. bit_at_and n (2 ^ members - 1) i ∙ bit i (cases_lt i members))
  where
    bit : (i : ℕ) → (i < members) ⊎ (members ≤ i) → min (bit_at n i) (bit_at (2 ^ members - 1) i) ≡ bit_at (2 ^ members - 1) i
    bit i (inl below) =
        let one : bit_at (2 ^ members - 1) i ≡ 1 = bit_at_ones members i below in
        let mine : bit_at n i ≡ 1 = eqb-true (bit_at n i) 1 (each i below) in
        omega arith
    bit i (inr above) = let none : bit_at (2 ^ members - 1) i ≡ 0 = bit_at_ones_above members i above in omega arith

-- the mask of so many ones, as it is computed
ones_of : (members : ℕ) → members ≤ 64 → (2 ^ 64 - 1) / 2 ^ (64 - members) ≡ 2 ^ members - 1
ones_of members few = ones_shr 64 (64 - members) (omega arith) ∙ ap (λ k. 2 ^ k - 1) (omega arith)

-- a number has each of its lowest bits
pub has_ones : (n members : ℕ) → members ≤ 64
    → (bit_and n ((2 ^ 64 - 1) / 2 ^ (64 - members)) == (2 ^ 64 - 1) / 2 ^ (64 - members)) ≡ each_place members (λ p. bit_at n p == 1)
has_ones n members few = ap (λ m. bit_and n m == m) (ones_of members few) ∙ same_bools _ _
    (λ e. each_place-from members _ (all_ones n members (eqb-true _ _ e)))
    (λ e. eq-eqb _ _ (ones_all n members (at_each_place members _ e)))

-- Decimal numbers, digit by digit.
use Rattle.std.proofs.Common.{◌≡◌, ◌≢◌, ℕ, suc, ◌+◌, ◌-◌, ◌*◌, ◌^◌, ◌<◌, ◌≤◌, Bool, true, false, List, [], ◌∷◌, length}
use Rattle.std.proofs.Common.{refl, sym, ◌∙◌, ap, subst, arith, if◌then◌else◌}
use Rattle.std.specs.Prelude.{Option, None, Some, ◌&&◌, nat_lt, ◌==◌}
use Rattle.std.specs.List.{list_all}
use Rattle.std.specs.Char.{is_ascii_digit}
use Rattle.std.proofs.lemmas.Bool.Decides.{nat_tests}
use Rattle.std.proofs.Math.Nat.{one-le-pow, mul_comm, le_trans}
use native.Mathlib.Numerals.{unary_clauses}
use Rattle.cell_script.specs.Words.{value_of, number_end, number_of}

-- the number, if it is one of a script
abbrev pub below : Bool → ℕ → Option ℕ
below all t = if all && nat_lt t number_end then Some t else None

-- the number that further digits make of value
pub number_on : ℕ → List ℕ → Option ℕ
number_on value cs = below (list_all is_ascii_digit cs) (value * 10 ^ length cs + value_of cs)

too_great : (all : Bool) (t : ℕ) → number_end ≤ t → below all t ≡ None
too_great true t great = let over : nat_lt t number_end ≡ false = grind (arith, nat_tests) in rw over refl
too_great false t great = refl

not_great : (t : ℕ) → t < number_end → below true t ≡ Some t
not_great t few = let under : nat_lt t number_end ≡ true = grind (arith, nat_tests) in rw under refl

next_power : (n : ℕ) → 10 ^ suc n ≡ 10 * 10 ^ n
next_power n = simp unary_clauses (mul_comm (10 ^ n) 10)

at_least : (w P rest : ℕ) → 1 ≤ P → w ≤ w * P + rest
at_least w P rest one = grind (arith)

regrouped : (value c P rest : ℕ) → value * (10 * P) + (c * P + rest) ≡ (10 * value + c) * P + rest
regrouped value c P rest = grind (arith)

-- a digit more
more : (value c : ℕ) (cs : List ℕ) → value * 10 ^ length (c ∷ cs) + value_of (c ∷ cs) ≡ (10 * value + (c - 48)) * 10 ^ length cs + value_of cs
more value c cs = ap (λ (p : ℕ). value * p + value_of (c ∷ cs)) (next_power (length cs)) ∙ regrouped value (c - 48) (10 ^ length cs) (value_of cs)

-- one more digit after a number
pub number_on_digit : (value c : ℕ) (cs : List ℕ) → is_ascii_digit c ≡ true → number_on value (c ∷ cs) ≡ number_on (10 * value + (c - 48)) cs
unfolding number_on
number_on_digit value c cs digit = rw digit (ap (below (list_all is_ascii_digit cs)) (more value c cs))

-- no digit
pub number_on_other : (value c : ℕ) (cs : List ℕ) → is_ascii_digit c ≡ false → number_on value (c ∷ cs) ≡ None
unfolding number_on
number_on_other value c cs other = rw other refl

-- a digit with which the number grows too great
pub number_on_great : (value c : ℕ) (cs : List ℕ) → number_end ≤ 10 * value + (c - 48) → number_on value (c ∷ cs) ≡ None
unfolding number_on
number_on_great value c cs great =
    let least = at_least (10 * value + (c - 48)) (10 ^ length cs) (value_of cs) (one-le-pow (length cs) 10 (omega arith)) in
    too_great (list_all is_ascii_digit (c ∷ cs)) (value * 10 ^ length (c ∷ cs) + value_of (c ∷ cs))
    (subst (λ (t : ℕ). number_end ≤ t) (sym (more value c cs)) (le_trans great least))

-- no more digits
pub number_on_end : (value : ℕ) → value < number_end → number_on value [] ≡ Some value
unfolding number_on
number_on_end value few =
    let same : value * 10 ^ 0 + 0 ≡ value = grind (arith) in
    ap (below true) same ∙ not_great value few

-- a whole word
pub number_on_word : (w : List ℕ) → 0 < length w → ((d : ℕ) (ds : List ℕ) → w ≢ 48 ∷ d ∷ ds) → number_on 0 w ≡ number_of w
unfolding number_on number_of
number_on_word [] some none = absurd (omega arith)
number_on_word (c ∷ []) some none =
    let same : 0 * 10 ^ length (c ∷ []) + value_of (c ∷ []) ≡ value_of (c ∷ []) = grind (arith) in
    ap (below (list_all is_ascii_digit (c ∷ []))) same ∙ ap (λ (digit : Bool). below digit (value_of (c ∷ []))) (with_true (is_ascii_digit c))
  where
    with_true : (b : Bool) → (b && true) ≡ b
    with_true true = refl
    with_true false = refl
number_on_word (c ∷ d ∷ ds) some none =
    let same : 0 * 10 ^ length (c ∷ d ∷ ds) + value_of (c ∷ d ∷ ds) ≡ value_of (c ∷ d ∷ ds) = grind (arith) in
    let other : (c == 48) ≡ false = not_zero c (λ is. none d ds (ap (λ (x : ℕ). x ∷ d ∷ ds) is)) in
    ap (below (list_all is_ascii_digit (c ∷ d ∷ ds))) same ∙ rw other refl
  where
    not_zero : (x : ℕ) → x ≢ 48 → (x == 48) ≡ false
    not_zero x ne = grind (arith, nat_tests)

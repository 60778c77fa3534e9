-- Numbers in decimal.
use Rattle.std.proofs.Common.{◌≡◌, ℕ, ◌+◌, ◌-◌, ◌*◌, ◌<◌, ◌≤◌, ◌^◌, true, false, eqb, leb, ◌&&◌, List, [], ◌∷◌, length, get_or, drop, Option, Some, None}
use Rattle.std.proofs.Common.{refl, sym, ap, ◌∙◌, arith, rules, lit<, not, inl, inr}
use Rattle.std.specs.Prelude.{IfSome}
use Rattle.std.proofs.lemmas.Option.{cond_some}
use Rattle.std.specs.Char.{is_ascii_digit}
use Rattle.std.specs.Str.{all_ascii_digits}
use Rattle.std.specs.Fmt.{decimal}
use Rattle.std.proofs.lemmas.Str.Parse.{IsNumeralModel, numerals_by_fold, tells_all_ascii_digits}
use Rattle.std.proofs.lemmas.Fmt.{digits_decimal, digits_value-decimal, decimal_nonempty, first_decimal, decimal_digit, decimal-digits_value}
use Rattle.tower_codec.proofs.Cuts.{lacks}
use Rattle.std.proofs.lemmas.Bool.{lt-leb, le-leb, leb-true, eq-eqb, ne_eqb, cases_eq, cases_lt, and_left, and_right, and_parts, and_from, not_from_false}
use Rattle.std.proofs.lemmas.Bool.{false≢true}
use Rattle.std.proofs.lemmas.List.{drop_more}
use Rattle.tower_codec.specs.BindingReading.{value_after, digits_of, number_of}

-- More digits make no smaller number.
pub value_grows : (n : ℕ) (digits : List ℕ) → n ≤ value_after n digits
value_grows n [] = omega arith
value_grows n (c ∷ digits) = omega (arith, value_grows (10 * n + (c - 48)) digits)

-- One digit on.
pub value_more : (n : ℕ) (text : List ℕ) (i : ℕ) → i < length text → value_after n (drop i text) ≡ value_after (10 * n + (get_or text i 0 - 48))
    (drop (i + 1) text)
value_more n text i within = ap (value_after n) (drop_more text i 0 within)

-- A text with another octet than a digit is no number.
pub no_digits : (most : ℕ) (text : List ℕ) → all_ascii_digits text ≡ false → None ≡ digits_of most text
unfolding digits_of
no_digits most text e = rw (and_left (all_ascii_digits text) (leb (value_after 0 text) most) e) refl

-- A number above the greatest is none.
pub too_large : (most : ℕ) (text : List ℕ) → most < value_after 0 text → None ≡ digits_of most text
unfolding digits_of
too_large most text e = rw (and_right (all_ascii_digits text) (leb (value_after 0 text) most) (lt-leb (value_after 0 text) most e)) refl

-- Digits up to the greatest number are that number.
pub digits_found : (most : ℕ) (text : List ℕ) → all_ascii_digits text ≡ true → value_after 0 text ≤ most → Some (value_after 0 text) ≡ digits_of most text
unfolding digits_of
digits_found most text digits within = rw (digits, le-leb (value_after 0 text) most within) refl

-- An octet that is no digit.
pub digit_fails : (text : List ℕ) (i : ℕ) → i < length text → is_ascii_digit (get_or text i 0) ≡ false → all_ascii_digits (drop i text) ≡ false
digit_fails text i within other = rw (drop_more text i 0 within, other) refl

-- A number that is read is at most the greatest.
pub digits_within : (r : Option ℕ) (most : ℕ) (text : List ℕ) → r ≡ digits_of most text → IfSome r (λ n. n ≤ most)
unfolding digits_of
digits_within None most text e = tt
digits_within (Some n) most text e =
    let value = value_after 0 text in
    let g = cond_some (all_ascii_digits text && leb value most) value n (sym e) in
    let tests = and_parts (all_ascii_digits text) (leb value most) g.0 in
    omega (arith, leb-true value most tests.1, g.1)

-- ---- Numbers that are printed.

-- The digits and their value are those of std's decimal numbers.
own : IsNumeralModel (λ ds. all_ascii_digits ds ≡ true) (value_after 0)
own = numerals_by_fold (λ ds. all_ascii_digits ds ≡ true) tells_all_ascii_digits value_after (search rules)

-- A printed number begins with 0 only where it is 0.
first_zero : (n : ℕ) → n < 2 ^ 64 → get_or (decimal n) 0 0 ≡ 48 → length (decimal n) ≡ 1
first_zero n small first =
    elim (cases_lt 0 n) [
      | inl some ↦ absurd (omega (arith, first_decimal n some small))
      | inr none ↦ (let zero_is : n ≡ 0 = omega arith in ap (λ (m : ℕ). length (decimal m)) zero_is ∙ ap length (decimal_digit 0 (lit< tt)))
    ]

number_of_digits : (most n : ℕ) (ds : List ℕ) → all_ascii_digits ds ≡ true → value_after 0 ds ≡ n → 0 < length ds
    → (get_or ds 0 0 ≡ 48 → length ds ≡ 1) → n ≤ most → number_of most ds ≡ Some n
unfolding number_of
number_of_digits most n [] digits value some first within = absurd (omega arith)
number_of_digits most n (c ∷ []) digits value some first within = sym (digits_found most (c ∷ []) digits (omega arith)) ∙ ap Some value
number_of_digits most n (c ∷ d ∷ ds) digits value some first within =
    let no_zero : eqb c 48 ≡ false = ne_eqb c 48 (λ e. absurd (let len = first e in omega arith)) in
    rw no_zero (sym (digits_found most (c ∷ d ∷ ds) digits (omega arith)) ∙ ap Some value)

-- A number in decimal is read as it.
pub number_again : (most n : ℕ) → n ≤ most → most < 2 ^ 64 → number_of most (decimal n) ≡ Some n
number_again most n within fits =
    let small : n < 2 ^ 64 = omega arith in
    number_of_digits most n (decimal n) (digits_decimal own n small) (digits_value-decimal own n small) (decimal_nonempty n small) (first_zero n small) within

-- The digits of what was found.
digits_are : (most n : ℕ) (text : List ℕ) → digits_of most text ≡ Some n → (all_ascii_digits text ≡ true) × (value_after 0 text ≡ n) × (n ≤ most)
unfolding digits_of
digits_are most n text e =
    let value = value_after 0 text in
    let g = cond_some (all_ascii_digits text && leb value most) value n e in
    let tests = and_parts (all_ascii_digits text) (leb value most) g.0 in
    (tests.0, g.1, omega (arith, leb-true value most tests.1, g.1))

spelled : (most n : ℕ) (text : List ℕ) → most < 2 ^ 64 → digits_of most text ≡ Some n → (get_or text 0 0 ≡ 48 → length text ≡ 1) → 0 < length text
    → (text ≡ decimal n) × (n ≤ most)
spelled most n text fits e first some =
    let are = digits_are most n text e in
    (sym (decimal-digits_value own text are.0 some first (omega (arith, are.1, are.2))) ∙ ap decimal are.1, are.2)

-- A number that is read is there in decimal.
pub number_found : (most n : ℕ) (text : List ℕ) → most < 2 ^ 64 → number_of most text ≡ Some n → (text ≡ decimal n) × (n ≤ most)
unfolding number_of
number_found most n [] fits e = absurd cc
number_found most n (c ∷ []) fits e = spelled most n (c ∷ []) fits e (λ _. refl) (omega arith)
number_found most n (c ∷ d ∷ text) fits e =
    elim (cases_eq c 48) [
      | inl zero_first ↦ absurd (let test = eq-eqb c 48 zero_first in let never : ◌≡◌ {A = Option ℕ} None (Some n) = rw test at e in cc)
      | inr other ↦ (let test = ne_eqb c 48 other in
          let found : digits_of most (c ∷ d ∷ text) ≡ Some n = rw test at e in
          spelled most n (c ∷ d ∷ text) fits found (λ first. absurd (other first)) (omega arith))
    ]

-- Digits lack what is no digit.
digits_lack : (mark : ℕ) (ds : List ℕ) → is_ascii_digit mark ≡ false → all_ascii_digits ds ≡ true → lacks mark ds ≡ true
digits_lack mark [] other digits = refl
digits_lack mark (c ∷ ds) other digits =
    let parts = and_parts (is_ascii_digit c) (all_ascii_digits ds) digits in
    let apart : eqb c mark ≡ false = ne_eqb c mark (λ e. absurd (false≢true (sym other ∙ sym (ap is_ascii_digit e) ∙ parts.0))) in
    and_from (not (eqb c mark)) (lacks mark ds) (not_from_false (eqb c mark) apart) (digits_lack mark ds other parts.1)

-- A number in decimal lacks each mark that is no digit.
pub decimal_lacks : (mark n : ℕ) → n < 2 ^ 64 → is_ascii_digit mark ≡ false → lacks mark (decimal n) ≡ true
decimal_lacks mark n small other = digits_lack mark (decimal n) other (digits_decimal own n small)

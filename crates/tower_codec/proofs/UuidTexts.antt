-- UUIDs in the hyphenated form.
use Rattle.std.proofs.Common.{◌≡◌, ℕ, zero, suc, ◌<◌, Bool, true, false, cond, ◌==◌, ◌&&◌, List, [], ◌∷◌, length, get_or, Option, Some, None, Result, Ok}
use Rattle.std.proofs.Common.{Err, IsOk, IfOk, ◌↔◌, ◌⊎◌, inl, inr, refl, sym, ap, subst, ◌∙◌, arith}
use Rattle.std.specs.Result.{result_ok}
use Rattle.std.specs.List.{list_all}
use Rattle.std.proofs.lemmas.Bool.{true≢false, false≢true, and_parts, eqb-true, cases_eq}
use Rattle.std.proofs.lemmas.Bool.Decides.{nat_tests}
use Rattle.uuid.specs.Text.{parsed, parsed_hyphenated, parsed_simple, digits_of, has_hyphens, is_hex_digit, by_index, byte_of_digits, hyphen_place, digit_place}
use Rattle.uuid.proofs.TextLemmas.{by_index_at, by_index_length}
use Rattle.tower_codec.proofs.Cuts.{lacks, lacks_from}

at_36 : (text : List ℕ) → length text ≡ 36 → parsed text ≡ parsed_hyphenated text
at_36 text len = rw len refl

none_of : (o : Option (List ℕ)) → ((x : List ℕ) → o ≡ Some x → ⊥) → None ≡ o
none_of None never = refl
none_of (Some x) never = absurd (never x refl)

-- What a parse of a text of 36 octets gives.
pub uuid_read : {E : Type 0} (r : Result (List ℕ) E) (text : List ℕ) → length text ≡ 36 → (IsOk r ↔ ((x : List ℕ) × (parsed text ≡ Some x)))
    → IfOk r (λ x. Some x ≡ parsed text) → result_ok r ≡ parsed_hyphenated text
uuid_read (Ok x) text len ok bytes = bytes ∙ at_36 text len
uuid_read (Err e) text len ok bytes = none_of (parsed_hyphenated text) (λ x e. true≢false (sym (ok.1 (x, at_36 text len ∙ e))))

-- ---- What is in a hyphenated form.

guard_some : {A : Type 0} (b : Bool) (o : Option A) (y : A) → cond b o None ≡ Some y → (b ≡ true) × (o ≡ Some y)
guard_some true o y e = (refl, e)
guard_some false o y e = absurd cc

all_at : (p : ℕ → Bool) (xs : List ℕ) (i : ℕ) → list_all p xs ≡ true → i < length xs → p (get_or xs i 0) ≡ true
all_at p [] i h within = absurd (omega arith)
all_at p (x ∷ xs) zero h within = (and_parts (p x) (list_all p xs) h).0
all_at p (x ∷ xs) (suc i) h within = all_at p xs i (and_parts (p x) (list_all p xs) h).1 (omega arith)

-- Between the hyphens each place has its digit.
digit_below : (k : ℕ) → k < 36 → (k ≡ 8 → ⊥) → (k ≡ 13 → ⊥) → (k ≡ 18 → ⊥) → (k ≡ 23 → ⊥) → digit_place k < 32
digit_below k within n8 n13 n18 n23 = grind (arith, nat_tests)

digit_is : (k : ℕ) → k < 36 → (k ≡ 8 → ⊥) → (k ≡ 13 → ⊥) → (k ≡ 18 → ⊥) → (k ≡ 23 → ⊥) → hyphen_place (digit_place k) ≡ k
digit_is k within n8 n13 n18 n23 = grind (arith, nat_tests)

-- Each octet is a hyphen or a hexadecimal digit.
octets_of : (text uuid : List ℕ) → parsed_hyphenated text ≡ Some uuid → (length text ≡ 36)
    × ((k : ℕ) → k < 36 → (get_or text k 0 ≡ 45) ⊎ (is_hex_digit (get_or text k 0) ≡ true))
octets_of text uuid e =
    let g = guard_some ((length text == 36) && has_hyphens text) (parsed_simple (digits_of text)) uuid e in
    let tests = and_parts (length text == 36) (has_hyphens text) g.0 in
    let d = guard_some ((length (digits_of text) == 32) && list_all is_hex_digit (digits_of text))
    (Some (by_index 16 (byte_of_digits (digits_of text)))) uuid g.1 in
    let digits = (and_parts (length (digits_of text) == 32) (list_all is_hex_digit (digits_of text)) d.0).1 in
    let c = and_parts ((get_or text 8 0 == 45) && (get_or text 13 0 == 45) && (get_or text 18 0 == 45)) (get_or text 23 0 == 45) tests.1 in
    let b = and_parts ((get_or text 8 0 == 45) && (get_or text 13 0 == 45)) (get_or text 18 0 == 45) c.0 in
    let a = and_parts (get_or text 8 0 == 45) (get_or text 13 0 == 45) b.0 in
    let at : (k i : ℕ) → i < 32 → hyphen_place i ≡ k → is_hex_digit (get_or text k 0) ≡ true = λ k i within place.
    subst (λ (j : ℕ). is_hex_digit (get_or text j 0) ≡ true) place
    (subst (λ (x : ℕ). is_hex_digit x ≡ true) (by_index_at 32 (λ j. get_or text (hyphen_place j) 0) i 0 within)
    (all_at is_hex_digit (digits_of text) i digits (omega (arith, by_index_length 32 (λ j. get_or text (hyphen_place j) 0))))) in (
      eqb-true (length text) 36 tests.0,
      λ k within.
          elim (cases_eq k 8) [
            | inl e8 ↦ inl (ap (λ (j : ℕ). get_or text j 0) e8 ∙ eqb-true _ _ a.0)
            | inr n8 ↦ elim (cases_eq k 13) [
              | inl e13 ↦ inl (ap (λ (j : ℕ). get_or text j 0) e13 ∙ eqb-true _ _ a.1)
              | inr n13 ↦ elim (cases_eq k 18) [
                | inl e18 ↦ inl (ap (λ (j : ℕ). get_or text j 0) e18 ∙ eqb-true _ _ b.1)
                | inr n18 ↦ elim (cases_eq k 23) [
                  | inl e23 ↦ inl (ap (λ (j : ℕ). get_or text j 0) e23 ∙ eqb-true _ _ c.1)
                  | inr n23 ↦ inr (at k (digit_place k) (digit_below k within n8 n13 n18 n23) (digit_is k within n8 n13 n18 n23))
                ]
              ]
            ]
          ],
    )

-- The text of a UUID has digits and hyphens alone.
pub uuid_lacks : (mark : ℕ) (text uuid : List ℕ) → parsed_hyphenated text ≡ Some uuid → (mark ≡ 45 → ⊥) → is_hex_digit mark ≡ false → lacks mark text ≡ true
uuid_lacks mark text uuid e hyphen digit =
    let octets = octets_of text uuid e in
    lacks_from mark text (λ k within same.
    elim (octets.1 k (omega (arith, octets.0))) [
      | inl is_hyphen ↦ hyphen (sym same ∙ is_hyphen)
      | inr is_digit ↦ false≢true (sym digit ∙ ap is_hex_digit (sym same) ∙ is_digit)
    ])

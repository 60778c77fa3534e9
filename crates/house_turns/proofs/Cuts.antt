-- Octets that are cut at one of them.
use Rattle.std.proofs.Common.{◌≡◌, ◌≢◌, ℕ, ◌+◌, ◌-◌, ◌<◌, ◌≤◌, Bool, true, false, cond, eqb, ltb, Some, None, List, [], ◌∷◌, ◌++◌, length, take, drop, refl, sym, ap, ◌∙◌, inl, inr, arith}
use Rattle.std.specs.List.{All, after_first, before_first, position, position_or_len}
use Rattle.std.proofs.lemmas.Bool.Decides.{Decides-eqb, eqb_tells}
use Rattle.std.proofs.lemmas.Bool.{ltb-false}
use Rattle.std.proofs.lemmas.List.{append_assoc, drop_all, drop_at, length-append, length-drop, take_all, take_at}
use Rattle.std.proofs.lemmas.List.Elements.{All-head, All-tail}

-- ---- where the first one is

-- what is from a place on, as a range gives it
range_end : (n : ℕ) (xs : List ℕ) → take (length xs - n) (drop n xs) ≡ drop n xs
range_end n xs = take_all (length xs - n) (drop n xs) (omega (arith, length-drop n xs))

-- one was found
found_at : (p : ℕ → Bool) (xs : List ℕ) (at : ℕ) → Some at ≡ position p xs → at ≡ position_or_len p xs
found_at p xs at is = cut (ltb (position_or_len p xs) (length xs)) is
  where
    cut : (b : Bool) → Some at ≡ cond b (Some (position_or_len p xs)) None → at ≡ position_or_len p xs
    cut true e = cc
    cut false e = absurd (cc)

pub found_before : (p : ℕ → Bool) (xs : List ℕ) (at : ℕ) → Some at ≡ position p xs → take at xs ≡ before_first p xs
found_before p xs at is = ap (λ (n : ℕ). take n xs) (found_at p xs at is)

pub found_after : (p : ℕ → Bool) (xs : List ℕ) (at : ℕ) → Some at ≡ position p xs
    → take (length xs - (at + 1)) (drop (at + 1) xs) ≡ after_first p xs
found_after p xs at is = range_end (at + 1) xs ∙ ap (λ (n : ℕ). drop (n + 1) xs) (found_at p xs at is)

-- none was found
not_before : (p : ℕ → Bool) (xs : List ℕ) → None ≡ position p xs → length xs ≤ position_or_len p xs
not_before p xs is = cut (ltb (position_or_len p xs) (length xs)) refl is
  where
    cut : (b : Bool) → ltb (position_or_len p xs) (length xs) ≡ b → None ≡ cond b (Some (position_or_len p xs)) None
        → length xs ≤ position_or_len p xs
    cut true e is = absurd (cc)
    cut false e is = omega (arith, ltb-false (position_or_len p xs) (length xs) e)

pub found_none_before : (p : ℕ → Bool) (xs : List ℕ) → None ≡ position p xs → xs ≡ before_first p xs
found_none_before p xs is = sym (take_all (position_or_len p xs) xs (not_before p xs is))

pub found_none_after : (p : ℕ → Bool) (xs : List ℕ) → None ≡ position p xs
    → take (length xs - length xs) (drop (length xs) xs) ≡ after_first p xs
found_none_after p xs is =
    let past = not_before p xs is in
    range_end (length xs) xs ∙ drop_all (length xs) xs (omega arith) ∙ sym (drop_all (position_or_len p xs + 1) xs (omega (arith, past)))

-- ---- parts

-- an octet that is not the separator
apart : (b sep : ℕ) → b ≢ sep → eqb b sep ≡ false
apart b sep ne = elim (eqb_tells b sep) [ inl h ↦ absurd (ne h.1) | inr h ↦ h.0 ]

-- the first separator comes right after octets that are others
first_after : (sep : ℕ) (front rest : List ℕ) → All (λ b. b ≢ sep) front
    → position_or_len (λ b. eqb b sep) (front ++ (sep ∷ rest)) ≡ length front
first_after sep [] rest none =
    let same : eqb sep sep ≡ true = (Decides-eqb sep sep).1 refl in
    rw same refl
first_after sep (x ∷ xs) rest none =
    let other : eqb x sep ≡ false = apart x sep (All-head (λ (b : ℕ). b ≢ sep) x xs none) in
    let later = first_after sep xs rest (All-tail (λ (b : ℕ). b ≢ sep) x xs none) in
    rw (other, later) (omega arith)

-- the octets before it
pub cut_before : (sep : ℕ) (octets front rest part : List ℕ) → octets ≡ front ++ (sep ∷ rest) → All (λ b. b ≢ sep) front
    → part ≡ before_first (λ b. eqb b sep) octets → part ≡ front
cut_before sep octets front rest part is none cut =
    cut ∙ ap (before_first (λ (b : ℕ). eqb b sep)) is
    ∙ ap (λ (n : ℕ). take n (front ++ (sep ∷ rest))) (first_after sep front rest none)
    ∙ take_at front (sep ∷ rest) (length front) refl

-- the octets after it
pub cut_after : (sep : ℕ) (octets front rest part : List ℕ) → octets ≡ front ++ (sep ∷ rest) → All (λ b. b ≢ sep) front
    → part ≡ after_first (λ b. eqb b sep) octets → part ≡ rest
cut_after sep octets front rest part is none cut =
    cut ∙ ap (after_first (λ (b : ℕ). eqb b sep)) is
    ∙ ap (λ (n : ℕ). drop (n + 1) (front ++ (sep ∷ rest))) (first_after sep front rest none)
    ∙ ap (drop (length front + 1)) (sym (append_assoc front (sep ∷ []) rest))
    ∙ drop_at (front ++ sep ∷ []) rest (length front + 1) (length-append front (sep ∷ []))

-- what comes after it is shorter than all
pub cut_smaller : (sep : ℕ) (octets part : List ℕ) → part ≡ after_first (λ b. eqb b sep) octets → 0 < length octets → length part < length octets
cut_smaller sep octets part cut some =
    omega (arith, ap length cut, length-drop (position_or_len (λ (b : ℕ). eqb b sep) octets + 1) octets, some)

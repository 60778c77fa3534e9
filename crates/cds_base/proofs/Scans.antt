-- What the printable front of some octets says of the line there.
use Rattle.std.proofs.Common.{◌≡◌, ◌≢◌, ◌⊎◌, inl, inr, ℕ, zero, suc, ◌+◌, ◌-◌, ◌≤◌, ◌<◌, Bool, ◌&&◌}
use Rattle.std.proofs.Common.{true, false, List, [], ◌∷◌, ◌++◌, length, take, drop, get_or}
use Rattle.std.proofs.Common.{refl, sym, ◌∙◌, ap, subst, arith, take-append-drop}
use Rattle.std.specs.Prelude.{◌↔◌, None, Some}
use Rattle.std.specs.List.{prefix_len}
use Rattle.std.proofs.lemmas.Bool.{and_parts}
use Rattle.std.proofs.lemmas.Bool.Decides.{nat_tests}
use Rattle.std.proofs.lemmas.List.{drop_more, length-take-le}
use Rattle.std.proofs.lemmas.List.Sums.{prefix_len_passes, prefix_len_stops, prefix_len-le-length}
use Rattle.cds_base.specs.declared.scan.LineFault.{LineFault}
use Rattle.cds_base.specs.declared.scan.LineFault.TheVariants.{LineTooLong, NotAscii, TooManyLines}
use Rattle.cds_base.specs.LineFaults.{is_printable, fault_at, AreClean, ShowsFault, BeginsWithLine}

-- ---- one octet

printable_range : (b : ℕ) → is_printable b ≡ true → (31 < b) × (b < 127)
printable_range b h = (grind (arith, nat_tests), grind (arith, nat_tests))

sound : (number place b : ℕ) → is_printable b ≡ true → place ≤ 4096 → number ≤ 16777216 → (b ≢ 10) × (fault_at number place b ≡ None)
unfolding fault_at
sound number place b h at few =
    let r = printable_range b h in
    (λ e. absurd (omega (arith, r.0, e)), grind (arith, nat_tests))

too_long : (number place b : ℕ) → b ≢ 10 → 4096 < place → fault_at number place b ≡ Some (LineTooLong number place)
unfolding fault_at
too_long number place b h at = grind (arith, nat_tests)

not_ascii : (number place b : ℕ) → b ≢ 10 → is_printable b ≡ false → place ≤ 4096 → fault_at number place b ≡ Some (NotAscii number place)
unfolding fault_at
not_ascii number place b ne h at = grind (arith, nat_tests)

too_many : (number place b : ℕ) → is_printable b ≡ true → place ≤ 4096 → 16777216 < number → fault_at number place b ≡ Some (TooManyLines number place)
unfolding fault_at
too_many number place b h at many =
    let r = printable_range b h in
    grind (arith, nat_tests)

too_many_ends : (number place : ℕ) → 16777216 < number → fault_at number place 10 ≡ Some (TooManyLines number place)
unfolding fault_at
too_many_ends number place many = grind (arith, nat_tests)

ends_here : (number place : ℕ) → number ≤ 16777216 → fault_at number place 10 ≡ None
unfolding fault_at
ends_here number place few = grind (arith, nat_tests)

-- a line that ends is among those that are counted
pub counted : (number place : ℕ) → fault_at number place 10 ≡ None → number ≤ 16777216
unfolding fault_at
counted number place none = grind (arith, nat_tests)

printable≢end : (b : ℕ) → is_printable b ≡ true → b ≢ 10
printable≢end b h e = let r = printable_range b h in absurd (omega (arith, r.0, e))

-- ---- the octets in front

clean_front : (number place : ℕ) (k : ℕ) (xs : List ℕ) → k ≤ prefix_len is_printable xs → (0 < k → number ≤ 16777216) → place + k ≤ 4097
    → AreClean number place (take k xs)
clean_front number place zero xs front few room = tt
clean_front number place (suc k) [] front few room = absurd (omega arith)
clean_front number place (suc k) (b ∷ bs) front few room =
    let passes : is_printable b ≡ true = prefix_len_passes is_printable (b ∷ bs) 0 0 (omega (arith, front)) in
    let more : k ≤ prefix_len is_printable bs = grind (arith, nat_tests) in
    let here = sound number place b passes (omega arith) (few (omega arith)) in
    (here.0, here.1, clean_front number (place + 1) k bs more (λ _. few (omega arith)) (omega arith))

-- octets that come after make no fewer printable ones stand in front
pub prefix_len-grows : (xs ys : List ℕ) → prefix_len is_printable xs ≤ prefix_len is_printable (xs ++ ys)
prefix_len-grows [] ys = omega arith
prefix_len-grows (b ∷ bs) ys =
    let more = prefix_len-grows bs ys in
    grind (arith, nat_tests, more)

zero_or : (n : ℕ) → (n ≡ 0) ⊎ (0 < n)
zero_or zero = inl refl
zero_or (suc n) = inr (omega arith)

-- the printable front goes on at a printable octet, and ends at another
pub front_goes_on : (xs : List ℕ) (k : ℕ) → k ≤ prefix_len is_printable xs → k < length xs → is_printable (get_or xs k 0) ≡ true
    → k + 1 ≤ prefix_len is_printable xs
front_goes_on xs k front within passes =
    elim (zero_or (prefix_len is_printable xs - k)) [
      | inl none ↦
          let at : prefix_len is_printable xs ≡ k = omega arith in
          let fails = ap (λ (i : ℕ). is_printable (get_or xs i 0)) (sym at) ∙ prefix_len_stops is_printable xs 0 (omega arith) in
          absurd (cc (passes, fails))
      | inr some ↦ omega arith
    ]

-- whether the printable front goes on so far, and one octet further
pub front_goes_on_by : (xs : List ℕ) (k : ℕ) (all here : Bool) → here ≡ is_printable (get_or xs k 0) → (all ≡ true) ↔ (k ≤ prefix_len is_printable xs)
    → k < length xs → ((all && here) ≡ true) ↔ (k + 1 ≤ prefix_len is_printable xs)
front_goes_on_by xs k all here is front within = (
  λ both.
      let parts = and_parts all here both in
      front_goes_on xs k (front.0 parts.0) within (sym is ∙ parts.1),
  λ more. both_true (front.1 (omega arith)) (is ∙ prefix_len_passes is_printable xs k 0 (omega arith)),
)
  where
    both_true : {a b : Bool} → a ≡ true → b ≡ true → (a && b) ≡ true
    both_true h i = cc

-- clean octets in front end before the printable ones do
pub front_ends : (xs : List ℕ) (k : ℕ) → k ≤ prefix_len is_printable xs → is_printable (get_or xs k 0) ≡ false → k ≡ prefix_len is_printable xs
front_ends xs k front fails =
    elim (zero_or (prefix_len is_printable xs - k)) [
      | inl none ↦ omega arith
      | inr some ↦ let passes = prefix_len_passes is_printable xs k 0 (omega arith) in absurd (cc (passes, fails))
    ]

-- the test of the number of the line, where octets stand in front
pub few_when_some : (n number : ℕ) → (0 < n × number ≤ 16777216) ⊎ (n ≤ 0) → 0 < n → number ≤ 16777216
few_when_some n number (inl both) some = both.1
few_when_some n number (inr none) some = absurd (omega arith)

-- the octets before k, the one there and those after it
split_at : (xs : List ℕ) (k : ℕ) → k < length xs → xs ≡ take k xs ++ get_or xs k 0 ∷ drop (k + 1) xs
split_at xs k lt = sym (take-append-drop k xs) ∙ ap (λ (l : List ℕ). take k xs ++ l) (drop_more xs k 0 lt)

module _ (number : ℕ) (xs : List ℕ) where
  shows : (k : ℕ) (fault : LineFault) → k < length xs → AreClean number 1 (take k xs) → fault_at number (k + 1) (get_or xs k 0) ≡ Some fault
      → ShowsFault number fault xs
  shows k fault lt clean is =
      let at : length (take k xs) + 1 ≡ k + 1 = omega (arith, length-take-le k xs (omega arith)) in record {
        front = take k xs;
        octet = get_or xs k 0;
        rest = drop (k + 1) xs;
        split = split_at xs k lt;
        clean = clean;
        shown = ap (λ (place : ℕ). fault_at number place (get_or xs k 0)) at ∙ is;
      }

  -- more printable octets than a line has
  pub sees_long : 4096 < prefix_len is_printable xs → number ≤ 16777216 → ShowsFault number (LineTooLong number 4097) xs
  sees_long long few =
      let within : 4096 < length xs = omega (arith, prefix_len-le-length is_printable xs) in
      let passes = prefix_len_passes is_printable xs 4096 0 long in
      shows 4096 (LineTooLong number 4097) within (clean_front number 1 4096 xs (omega arith) (λ _. few) (omega arith))
      (too_long number 4097 (get_or xs 4096 0) (printable≢end _ passes) (omega arith))

  -- an octet of one line too many
  pub sees_many : 0 < prefix_len is_printable xs → 16777216 < number → ShowsFault number (TooManyLines number 1) xs
  sees_many some many =
      let within : 0 < length xs = omega (arith, prefix_len-le-length is_printable xs) in
      shows 0 (TooManyLines number 1) within tt (too_many number 1 (get_or xs 0 0) (prefix_len_passes is_printable xs 0 0 some) (omega arith) many)

  -- printable octets alone: more have to come
  pub sees_more : (n : ℕ) → n ≡ prefix_len is_printable xs → n ≡ length xs → n ≤ 4096 → (0 < n → number ≤ 16777216) → AreClean number 1 xs
  sees_more n is all short few =
      let P : List ℕ → Type 0 = AreClean number 1 in
      subst P (take_whole n xs all) (clean_front number 1 n xs (omega arith) few (omega arith))
    where
      take_whole : (n : ℕ) (l : List ℕ) → n ≡ length l → take n l ≡ l
      take_whole zero [] e = refl
      take_whole zero (b ∷ bs) e = absurd (omega arith)
      take_whole (suc n) [] e = absurd (omega arith)
      take_whole (suc n) (b ∷ bs) e = ap (λ (l : List ℕ). b ∷ l) (take_whole n bs (omega arith))

  -- after the printable front is one that is not
  module _ (n : ℕ) (is : n ≡ prefix_len is_printable xs) (within : n < length xs) (short : n ≤ 4096) (few : 0 < n → number ≤ 16777216) where
    front_clean : AreClean number 1 (take n xs)
    front_clean = clean_front number 1 n xs (omega arith) few (omega arith)

    stops : is_printable (get_or xs n 0) ≡ false
    stops = ap (λ (k : ℕ). is_printable (get_or xs k 0)) is ∙ prefix_len_stops is_printable xs 0 (omega (arith, is, within))

    -- a line end of one line too many
    pub sees_many_ends : get_or xs n 0 ≡ 10 → 16777216 < number → ShowsFault number (TooManyLines number 1) xs
    sees_many_ends end many =
        let none : n ≡ 0 = elim (zero_or n) [ inl z ↦ z | inr some ↦ absurd (omega (arith, few some, many)) ] in
        shows 0 (TooManyLines number 1) (omega arith) tt (ap (fault_at number 1) (ap (λ (k : ℕ). get_or xs k 0) (sym none) ∙ end) ∙ too_many_ends number 1 many)

    -- a line end after printable octets
    pub sees_line : get_or xs n 0 ≡ 10 → number ≤ 16777216 → BeginsWithLine number (take n xs) (drop (n + 1) xs) xs
    sees_line end ok =
        (split_at xs n within ∙ ap (λ (b : ℕ). take n xs ++ b ∷ drop (n + 1) xs) end, (front_clean, ends_here number (length (take n xs) + 1) ok))

    -- the octet after the longest line is no line end
    pub sees_too_long : n ≡ 4096 → get_or xs n 0 ≢ 10 → ShowsFault number (LineTooLong number 4097) xs
    sees_too_long at ne =
        let place : n + 1 ≡ 4097 = omega (arith, at) in
        shows n (LineTooLong number 4097) within front_clean (too_long number (n + 1) (get_or xs n 0) ne (omega arith)
        ∙ ap (λ (k : ℕ). Some (LineTooLong number k)) place)

    -- an octet that is neither printable nor a line end
    pub sees_not_ascii : n ≢ 4096 → get_or xs n 0 ≢ 10 → ShowsFault number (NotAscii number (n + 1)) xs
    sees_not_ascii less ne = shows n (NotAscii number (n + 1)) within front_clean (not_ascii number (n + 1) (get_or xs n 0) ne stops (omega arith))

-- ---- octets that are not clean

-- clean octets hold no line end and no octet at fault
clean_octet : (number place : ℕ) (front rest : List ℕ) (octet : ℕ) → AreClean number place (front ++ octet ∷ rest) → (octet ≢ 10)
    × (fault_at number (place + length front) octet ≡ None)
clean_octet number place [] rest octet clean =
    let at : place ≡ place + 0 = omega arith in
    (clean.0, ap (λ (k : ℕ). fault_at number k octet) (sym at) ∙ clean.1)
clean_octet number place (b ∷ bs) rest octet clean =
    let more = clean_octet number (place + 1) bs rest octet clean.2 in
    let at : place + suc (length bs) ≡ place + 1 + length bs = omega arith in
    (more.0, ap (λ (k : ℕ). fault_at number k octet) at ∙ more.1)

-- octets with a whole line in front are not clean
pub line_not_clean : (number : ℕ) (line rest octets : List ℕ) → BeginsWithLine number line rest octets → AreClean number 1 octets → ⊥
line_not_clean number line rest octets begins clean =
    let P : List ℕ → Type 0 = AreClean number 1 in
    (clean_octet number 1 line rest 10 (subst P begins.0 clean)).0 refl

-- octets that show a fault are not clean
pub fault_not_clean : (number : ℕ) (fault : LineFault) (octets : List ℕ) → ShowsFault number fault octets → AreClean number 1 octets → ⊥
fault_not_clean number fault octets shown clean =
    let P : List ℕ → Type 0 = AreClean number 1 in
    let none = (clean_octet number 1 shown.front shown.rest shown.octet (subst P shown.split clean)).1 in
    let at : 1 + length shown.front ≡ length shown.front + 1 = omega arith in
    let some = ap (λ (k : ℕ). fault_at number k shown.octet) at ∙ shown.shown in
    cc (none, some)

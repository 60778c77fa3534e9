-- The text of towers is lines that say them again.
use Rattle.std.proofs.Common.{◌≡◌, ◌≢◌, inl, inr, ℕ, zero, suc, ◌+◌, ◌*◌, ◌/◌, ◌%◌, ◌≤◌, ◌<◌, Bool}
use Rattle.std.proofs.Common.{true, false, ◌&&◌, not, List, [], ◌∷◌, ◌++◌, length}
use Rattle.std.proofs.Common.{map, refl, sym, ◌∙◌, ap, subst, arith, append-nil, length-append}
use Rattle.std.specs.Prelude.{Option, Some, None, nat_le, nat_lt, nat_eq, ◌==◌, codes, filter, slice_index, if◌then◌else◌}
use Rattle.std.specs.List.{flat_map, slice_split, starts_with, AllByRecursion}
use Rattle.std.specs.Option.{option_map, option_and_then}
use Rattle.std.specs.Result.{result_ok}
use Rattle.std.specs.Str.{bytes_eq}
use Rattle.std.proofs.lemmas.Bool.{and_parts, cases_lt}
use Rattle.std.proofs.lemmas.Bool.Decides.{nat_tests}
use Rattle.std.proofs.lemmas.List.Splits.{slice_split_none, slice_split_at}
use Rattle.std.proofs.lemmas.List.Elements.{All-from_recursion}
use Rattle.std.proofs.Math.Seq.{take-append_seam}
use Rattle.hex.specs.Hex.{IsBytes, encode_lower, encode_with, lower_digits, decode_of}
use Rattle.hex.proofs.HexLemmas.{decode_of-encode_lower, length-encode_with}
use Rattle.cds_base.specs.LineFaults.{is_printable, fault_at, AreClean, IsLine}
use Rattle.tower_codec.specs.Tower.{Floor, IsTower}
use Rattle.tower_codec.specs.Spelling.{number_octets, part_octets, floor_octets, tower_octets, FloorFits}
use Rattle.tower_codec.proofs.Grammar.{IsBytes-rest, IsBytes-tail}
use Rattle.tower_codec.proofs.SpellingLaws.{tower_spelled}
use Rattle.tower_codec.proofs.Cuts.{lacks, cut_again}
use Rattle.cell_script.specs.Words.{words_of}
use Rattle.reply_buffer.specs.TowerTexts.{floor_text, floors_text, floor_of_parts, floor_said, floors_said, is_dash, TowerLine, SaysNothing, SaysTower}
use Rattle.reply_buffer.specs.TowerTexts.{short_tower, tower_in, tower_said}
use Rattle.line_forms.specs.Demand.{Demand, Sound, then_rest, with_front, line_demand, whole}
use Rattle.reply_buffer.specs.Responses.{spell_response}
use Rattle.cell_replay.specs.FormReadings.{spelling_rule}
use Rattle.cell_replay.specs.TowerDemand.{Rest, Nothing, AtFault, PartOf, AreTowers, towers_demand, TowersDemand}
use Rattle.line_forms.proofs.Scanning.{scanned, demanded_scanned}
use Rattle.line_forms.proofs.Demands.{demand_line, demand_part}
use Rattle.cell_replay.proofs.Streams.{IsBytes-front}
use Rattle.reply_buffer.proofs.TowerLines.{short}
use Rattle.cell_replay.proofs.TowerTurns.{taken_short}

-- ---- octets of hexadecimal text: digits, and the marks between them

-- a digit in lower case, by its code
abbrev is_lower_digit : ℕ → Bool
is_lower_digit c = nat_le 48 c && (nat_le c 102 && not (c == 58))

-- the test of the first n digits of the table
abbrev all_digits : ℕ → Bool
all_digits zero = true
all_digits (suc n) = is_lower_digit (slice_index lower_digits n) && all_digits n

digit_below : (n d : ℕ) → all_digits n ≡ true → d < n → is_lower_digit (slice_index lower_digits d) ≡ true
digit_below zero d passed lt = absurd (omega arith)
digit_below (suc n) d passed lt =
    let parts = and_parts (is_lower_digit (slice_index lower_digits n)) (all_digits n) passed in
    elim (cases_lt d n) [
      | inl below ↦ digit_below n d parts.1 below
      | inr top ↦
          let e : d ≡ n = omega arith in
          rw e parts.0
    ]

digit_of : (d : ℕ) → d < 16 → is_lower_digit (slice_index lower_digits d) ≡ true
digit_of d lt = digit_below 16 d refl lt

abbrev AreDigits : List ℕ → Type 0
AreDigits = AllByRecursion (λ c. is_lower_digit c ≡ true)

encoded_digits : (octets : List ℕ) → IsBytes octets → AreDigits (encode_lower octets)
unfolding encode_with
encoded_digits [] bytes = tt
encoded_digits (b ∷ bs) bytes =
    let fits : b < 256 = bytes 0 in
    (digit_of (b / 16) (omega (arith, fits)), (digit_of (b % 16) (omega (arith, fits)), encoded_digits bs (IsBytes-tail b bs bytes)))

-- where each of some octets passes, each of more
both : (P : ℕ → Type 0) (xs ys : List ℕ) → AllByRecursion P xs → AllByRecursion P ys → AllByRecursion P (xs ++ ys)
both P [] ys first second = second
both P (x ∷ xs) ys first second = (first.0, both P xs ys first.1 second)

weaker : (P Q : ℕ → Type 0) (xs : List ℕ) → ((x : ℕ) → P x → Q x) → AllByRecursion P xs → AllByRecursion Q xs
weaker P Q [] f all = tt
weaker P Q (x ∷ xs) f all = (f x all.0, weaker P Q xs f all.1)

-- an octet of the text of a floor
abbrev is_mark : ℕ → Bool
is_mark c = nat_le 48 c && nat_le c 102

abbrev AreMarks : List ℕ → Type 0
AreMarks = AllByRecursion (λ c. is_mark c ≡ true)

digit_marks : (c : ℕ) → is_lower_digit c ≡ true → is_mark c ≡ true
digit_marks c is = grind (arith, nat_tests)

floor_marks : (f : Floor) → IsBytes f.left → IsBytes f.right → AreMarks (floor_text f)
floor_marks f left right =
    let marks = λ (octets : List ℕ) (bytes : IsBytes octets). weaker (λ c. is_lower_digit c ≡ true) (λ c. is_mark c ≡ true)
    (encode_lower octets) digit_marks (encoded_digits octets bytes) in
    both (λ c. is_mark c ≡ true) (encode_lower f.left) (58 ∷ encode_lower f.right) (marks f.left left) (refl, marks f.right right)

-- ---- a floor is read from its text

lacks_colon : (text : List ℕ) → AreDigits text → lacks 58 text ≡ true
lacks_colon [] digits = refl
lacks_colon (c ∷ text) digits =
    let later = lacks_colon text digits.1 in
    let other : not (c == 58) ≡ true = not_colon c digits.0 in
    rw (other, later) refl
  where
    not_colon : (c : ℕ) → is_lower_digit c ≡ true → not (c == 58) ≡ true
    not_colon c is = grind (arith, nat_tests)

floor_again : (f : Floor) → 0 < length f.left → IsBytes f.left → IsBytes f.right → floor_said (floor_text f) ≡ Some f
unfolding floor_said
floor_again f some left right =
    ap (λ o. option_and_then (λ p. floor_of_parts (result_ok (decode_of p.0)) (result_ok (decode_of p.1))) o)
    (cut_again 58 (encode_lower f.left) (encode_lower f.right) (lacks_colon (encode_lower f.left) (encoded_digits f.left left)))
    ∙ ap (λ r. floor_of_parts (result_ok r) (result_ok (decode_of (encode_lower f.right)))) (decode_of-encode_lower f.left left)
    ∙ ap (λ r. floor_of_parts (Some f.left) (result_ok r)) (decode_of-encode_lower f.right right)
    ∙ by_left f.left f.right some
  where
    by_left : (l r : List ℕ) → 0 < length l → floor_of_parts (Some l) (Some r) ≡ Some (record { left = l; right = r })
    by_left [] r some = absurd (omega (arith, some))
    by_left (b ∷ bs) r some = refl

-- floors whose parts are octets, with a left part of one at least
pub record IsReadable (f : Floor) : Type 0 where
  pub some : 0 < length f.left
  pub left : IsBytes f.left
  pub right : IsBytes f.right

abbrev AreReadable : List Floor → Type 0
AreReadable = AllByRecursion IsReadable

floors_again : (fs : List Floor) → AreReadable fs → floors_said (map floor_text fs) ≡ Some fs
floors_again [] all = refl
floors_again (f ∷ fs) all =
    ap (λ (o : Option Floor). option_and_then (λ floor. option_map (λ floors. floor ∷ floors) (floors_said (map floor_text fs))) o)
    (floor_again f all.0.some all.0.left all.0.right)
    ∙ ap (λ (o : Option (List Floor)). option_map (λ floors. f ∷ floors) o) (floors_again fs all.1)

-- ---- the words of a line

abbrev is_space : ℕ → Bool
is_space c = c == 32

no_space : (c : ℕ) → is_mark c ≡ true → is_space c ≡ false
no_space c is = grind (arith, nat_tests)

text_is_word : (f : Floor) → IsReadable f → AllByRecursion (λ c. is_space c ≡ false) (floor_text f)
text_is_word f is = weaker (λ c. is_mark c ≡ true) (λ c. is_space c ≡ false) (floor_text f) no_space (floor_marks f is.left is.right)

split_floors : (f : Floor) (fs : List Floor) → AreReadable (f ∷ fs) → slice_split is_space
    (floor_text f ++ flat_map (λ f. 32 ∷ floor_text f) fs) ≡ floor_text f ∷ map floor_text fs
split_floors f [] all = ap (slice_split is_space) (append-nil (floor_text f))
    ∙ slice_split_none is_space (floor_text f) (All-from_recursion (λ c. is_space c ≡ false) (floor_text f) (text_is_word f all.0))
split_floors f (g ∷ gs) all =
    slice_split_at is_space (floor_text f) 32 (floor_text g ++ flat_map (λ f. 32 ∷ floor_text f) gs)
    (All-from_recursion (λ c. is_space c ≡ false) (floor_text f) (text_is_word f all.0)) refl
    ∙ ap (λ (ws : List (List ℕ)). floor_text f ∷ ws) (split_floors g gs all.1)

abbrev is_word : List ℕ → Bool
is_word w = not (length w == 0)

some_text : (f : Floor) → is_word (floor_text f) ≡ true
some_text f =
    let size = length-append (encode_lower f.left) (58 ∷ encode_lower f.right) in
    some_length (length (floor_text f)) (omega (arith, size))
  where
    some_length : (n : ℕ) → 0 < n → not (n == 0) ≡ true
    some_length n some = grind (arith, nat_tests)

keep_words : (fs : List Floor) → filter is_word (map floor_text fs) ≡ map floor_text fs
keep_words [] = refl
keep_words (f ∷ fs) = let yes_it_is = some_text f in rw yes_it_is (ap (λ (ws : List (List ℕ)). floor_text f ∷ ws) (keep_words fs))

words_again : (f : Floor) (fs : List Floor) → AreReadable (f ∷ fs) → words_of (floors_text (f ∷ fs)) ≡ map floor_text (f ∷ fs)
words_again f fs all = ap (filter is_word) (split_floors f fs all) ∙ keep_words (f ∷ fs)

-- ---- the line of a tower says it

-- a text that begins with a digit is no comment, and not the mark for no floors
first_digit : (word : List ℕ) → 0 < length word → AreMarks word → (starts_with nat_eq word (codes "#") ≡ false) × (bytes_eq word (codes "-") ≡ false)
first_digit [] some marks = absurd (omega (arith, some))
first_digit (c ∷ cs) some marks =
    let mark : is_mark c ≡ true = marks.0 in
    let no_hash : nat_eq 35 c ≡ false = grind (arith, nat_tests) in
    let no_minus : nat_eq c 45 ≡ false = grind (arith, nat_tests) in
    (rw no_hash refl, rw no_minus refl)

pub says_again : (fs : List Floor) → AreReadable fs → length (tower_octets fs) ≤ 1024 → tower_said (words_of (floors_text fs)) ≡ SaysTower fs
says_again [] all few = refl
says_again (f ∷ fs) all few =
    ap tower_said (words_again f fs all) ∙ by_comment (starts_with nat_eq (floor_text f) (codes "#")) (tower_in (map floor_text (f ∷ fs))) first.0
    ∙ by_dash (is_dash (map floor_text (f ∷ fs))) (no_dash fs) ∙ ap short_tower (floors_again (f ∷ fs) all) ∙ short (f ∷ fs) few
  where
    first : (starts_with nat_eq (floor_text f) (codes "#") ≡ false) × (bytes_eq (floor_text f) (codes "-") ≡ false)
    first = first_digit (floor_text f) (let size = length-append (encode_lower f.left) (58 ∷ encode_lower f.right) in omega (arith, size))
        (floor_marks f all.0.left all.0.right)

    by_comment : (b : Bool) (t : TowerLine) → b ≡ false → (if b then SaysNothing else t) ≡ t
    by_comment true t is = absurd (cc (is))
    by_comment false t is = refl

    by_dash : (b : Bool) → b ≡ false → short_tower (if b then Some [] else floors_said (map floor_text (f ∷ fs))) ≡ short_tower
        (floors_said (map floor_text (f ∷ fs)))
    by_dash true is = absurd (cc (is))
    by_dash false is = refl

    no_dash : (gs : List Floor) → is_dash (floor_text f ∷ map floor_text gs) ≡ false
    no_dash [] = first.1
    no_dash (g ∷ gs) = refl

-- ---- the text of a tower is a line

-- an octet of a tower's line
abbrev is_shown : ℕ → Bool
is_shown c = nat_le 32 c && nat_le c 102

abbrev AreShown : List ℕ → Type 0
AreShown = AllByRecursion (λ c. is_shown c ≡ true)

mark_shown : (c : ℕ) → is_mark c ≡ true → is_shown c ≡ true
mark_shown c is = grind (arith, nat_tests)

floor_shown : (f : Floor) → IsReadable f → AreShown (floor_text f)
floor_shown f is = weaker (λ c. is_mark c ≡ true) (λ c. is_shown c ≡ true) (floor_text f) mark_shown (floor_marks f is.left is.right)

more_shown : (fs : List Floor) → AreReadable fs → AreShown (flat_map (λ f. 32 ∷ floor_text f) fs)
more_shown [] all = tt
more_shown (f ∷ fs) all = (
  refl,
  both (λ c. is_shown c ≡ true) (floor_text f) (flat_map (λ f. 32 ∷ floor_text f) fs) (floor_shown f all.0)
      (more_shown fs all.1),
)

floors_shown : (fs : List Floor) → AreReadable fs → AreShown (floors_text fs)
floors_shown [] all = (refl, tt)
floors_shown (f ∷ fs) all = both (λ c. is_shown c ≡ true) (floor_text f) (flat_map (λ f. 32 ∷ floor_text f) fs) (floor_shown f all.0) (more_shown fs all.1)

text_length : (f : Floor) → length (floor_text f) + 7 ≡ 2 * length (floor_octets f)
text_length f =
    omega (
      arith,
      length-append (encode_lower f.left) (58 ∷ encode_lower f.right),
      length-encode_with lower_digits f.left,
      length-encode_with
          lower_digits f.right,
      length-append (part_octets f.left) (part_octets f.right),
    )

more_length : (fs : List Floor) → length (flat_map (λ f. 32 ∷ floor_text f) fs) ≤ 2 * length (flat_map floor_octets fs)
more_length [] = omega arith
more_length (f ∷ fs) =
    let later = more_length fs in
    omega (
      arith,
      later,
      text_length f,
      length-append (floor_text f) (flat_map (λ f. 32 ∷ floor_text f) fs),
      length-append (floor_octets f)
          (flat_map floor_octets fs),
    )

floors_length_few : (fs : List Floor) → length (tower_octets fs) ≤ 1024 → length (floors_text fs) ≤ 4096
floors_length_few [] few = omega arith
floors_length_few (f ∷ fs) few =
    omega (
      arith,
      few,
      more_length fs,
      text_length f,
      length-append (floor_text f) (flat_map (λ f. 32 ∷ floor_text f) fs),
      length-append
          (floor_octets f) (flat_map floor_octets fs),
    )

no_fault : (number place c : ℕ) → number ≤ 16777216 → place ≤ 4096 → is_shown c ≡ true → (c ≢ 10) × (fault_at number place c ≡ None)
unfolding fault_at
no_fault number place c counted within shown =
    let no_end : (c == 10) ≡ false = grind (arith, nat_tests) in
    let near : nat_lt 4096 place ≡ false = grind (arith, nat_tests) in
    let printable : is_printable c ≡ true = grind (arith, nat_tests) in
    let few : nat_lt 16777216 number ≡ false = grind (arith, nat_tests) in
    (λ e. absurd (ten_ends c e no_end), rw (no_end, near, printable, few) refl)
  where
    ten_ends : (c : ℕ) → c ≡ 10 → (c == 10) ≡ false → ⊥
    ten_ends c e no_end = grind (arith, nat_tests)

shown_clean : (number place : ℕ) (text : List ℕ) → number ≤ 16777216 → place + length text ≤ 4097 → AreShown text → AreClean number place text
shown_clean number place [] counted within shown = tt
shown_clean number place (c ∷ cs) counted within shown =
    let one = no_fault number place c counted (omega (arith, within)) shown.0 in
    (one.0, one.1, shown_clean number (place + 1) cs counted (omega (arith, within)) shown.1)

end_fits : (number place : ℕ) → number ≤ 16777216 → fault_at number place 10 ≡ None
unfolding fault_at
end_fits number place counted = let few : nat_lt 16777216 number ≡ false = grind (arith, nat_tests) in rw few refl

tower_is_line : (number : ℕ) (fs : List Floor) → number ≤ 16777216 → AreReadable fs → length (tower_octets fs) ≤ 1024 → IsLine number (floors_text fs)
tower_is_line number fs counted all few = (
  shown_clean number 1 (floors_text fs) counted (omega (arith, floors_length_few fs few)) (floors_shown fs all),
  end_fits number
      (length (floors_text fs) + 1) counted,
)

-- ---- the parts of a tower of octets are octets

bytes_front : (xs ys : List ℕ) → IsBytes (xs ++ ys) → IsBytes xs
bytes_front xs ys bytes = subst IsBytes (take-append_seam xs ys) (IsBytes-front (length xs) (xs ++ ys) bytes)

bytes_part : (part : List ℕ) → IsBytes (part_octets part) → IsBytes part
bytes_part part bytes = IsBytes-rest (number_octets (length part)) part bytes

readable_floors : (fs : List Floor) → AllByRecursion FloorFits fs → IsBytes (flat_map floor_octets fs) → AreReadable fs
readable_floors [] fits bytes = tt
readable_floors (f ∷ fs) fits bytes =
    let floor : IsBytes (floor_octets f) = bytes_front (floor_octets f) (flat_map floor_octets fs) bytes in (
      record {
        some = fits.0.some;
        left = bytes_part f.left (bytes_front (part_octets f.left) (part_octets f.right) floor);
        right = bytes_part f.right (IsBytes-rest (part_octets f.left) (part_octets f.right) floor);
      },
      readable_floors fs fits.1 (IsBytes-rest (floor_octets f) (flat_map floor_octets fs) bytes),
    )

readable : (fs : List Floor) (octets : List ℕ) → IsBytes octets → IsTower fs octets → AreReadable fs
readable fs octets bytes tower =
    let spell_response = tower_spelled fs octets tower in
    readable_floors fs spell_response.0.1 (IsBytes-rest (number_octets (length fs)) (flat_map floor_octets fs) (subst IsBytes spell_response.1 bytes))

-- ---- all towers

lines_again : (number : ℕ) (octets : List ℕ) (ts : List (List Floor)) → IsBytes octets → AreTowers number octets ts Nothing
    → scanned spelling_rule number tt [] (towers_demand number ts Nothing).body ≡ whole octets
lines_again number octets [] bytes none = demand_part spelling_rule number tt [] tt ∙ ap whole (sym none)
lines_again number octets (f ∷ ts) bytes are =
    let front : List ℕ = are.0 in
    let behind : List ℕ = are.1 in
    let taken = are.3 in
    let rest : List ℕ = (towers_demand (number + 1) ts Nothing).body in
    let split_bytes : IsBytes (front ++ behind) = subst IsBytes are.2 bytes in
    let all = readable f front (bytes_front front behind split_bytes) taken.2 in
    let spelling = (tower_spelled f front taken.2).1 in
    let few = taken_short number f front taken in
    let later : scanned spelling_rule (number + 1) tt [] rest ≡ whole behind = lines_again (number + 1) behind ts (IsBytes-rest front behind split_bytes) are.4 in
    demand_line spelling_rule number tt (floors_text f) rest (tower_is_line number f taken.0 all few)
    ∙ ap (λ (t : TowerLine). then_rest (spell_response t) (λ next. scanned spelling_rule (number + 1) next [] rest)) (says_again f all few)
    ∙ ap (with_front (tower_octets f)) later
    ∙ ap (λ (l : List ℕ). whole (l ++ behind)) (sym spelling)
    ∙ ap whole (sym are.2)

sound_rest : (number : ℕ) (ts : List (List Floor)) (r : Rest) → (towers_demand number ts r).verdict ≡ Sound → r ≡ Nothing
sound_rest number [] Nothing sound = refl
sound_rest number [] (AtFault fault) sound = cc (sound)
sound_rest number [] (PartOf fault) sound = cc (sound)
sound_rest number (t ∷ ts) r sound = sound_rest (number + 1) ts r sound

no_end : (number : ℕ) (ts : List (List Floor)) → (towers_demand number ts Nothing).end ≡ []
no_end number [] = refl
no_end number (t ∷ ts) = no_end (number + 1) ts

-- `untowers` gives back the octets whose text `towers` wrote
pub towers_again : (octets : List ℕ) (d : Demand) → IsBytes octets → TowersDemand 1 octets d → d.verdict ≡ Sound
    → line_demand spelling_rule tt (d.body ++ d.end) ≡ whole octets
towers_again octets d bytes demands sound =
    let none : demands.1 ≡ Nothing = sound_rest 1 demands.0 demands.1 (ap (λ (x : Demand). x.verdict) demands.3 ∙ sound) in
    let are : AreTowers 1 octets demands.0 Nothing = subst (AreTowers 1 octets demands.0) none demands.2 in
    let is : towers_demand 1 demands.0 Nothing ≡ d = ap (towers_demand 1 demands.0) (sym none) ∙ demands.3 in
    demanded_scanned spelling_rule tt (d.body ++ d.end)
    ∙ ap (λ (x : Demand). scanned spelling_rule 1 tt [] (x.body ++ x.end)) (sym is)
    ∙ ap (λ (l : List ℕ). scanned spelling_rule 1 tt [] ((towers_demand 1 demands.0 Nothing).body ++ l)) (no_end 1 demands.0)
    ∙ ap (scanned spelling_rule 1 tt []) (append-nil (towers_demand 1 demands.0 Nothing).body)
    ∙ lines_again 1 octets demands.0 bytes are

-- A turn that is said again: its text cut into its line, its messages and its answer.
use Rattle.std.proofs.Common.{◌≡◌, ◌≢◌, ℕ, zero, suc, ◌+◌, ◌<◌, ◌≤◌, ◌/◌, ◌%◌, Bool, true, false, cond, eqb, ltb, List, [], ◌∷◌, ◌++◌, length, take, drop, get_or, slice_index, refl, sym, ap, ◌∙◌, arith}
use Rattle.std.specs.Prelude.{codes, decimal, Result, Ok, Err, OnOk}
use Rattle.std.specs.Fmt.{digit_glyph, digits, digits_onto}
use Rattle.std.specs.List.{All, AllByRecursion, after_first, before_first}
use Rattle.std.proofs.lemmas.List.{append_assoc, append-nil, drop_at, length-append, length-take, take_at, take-append-drop}
use Rattle.std.proofs.lemmas.Grind.{flat_map-append}
use Rattle.std.proofs.lemmas.List.Concat.{flat_map-cons}
use Rattle.std.proofs.lemmas.List.Elements.{All-append, All-cons, All-from_recursion, All-nil, All-weaker}
use Rattle.hex.specs.Hex.{encode_lower, encode_with, lower_digits}
use Rattle.hex.proofs.HexLemmas.{length-encode_with}
use Rattle.script_answers.specs.Texts.{line_text, lines_text}
use Rattle.cell_runs.specs.Entries.{Post}
use Rattle.house_turns.specs.LineOutcomes.{HasNoEnd}
use Rattle.house_turns.specs.HouseReplies.{posts_lines, posts_text, turn_lines}
use Rattle.house_turns.specs.Openings.{again_lines, said_again}
use Rattle.house_turns.specs.PostTexts.{piece_lines, pieces_of, post_line}
use Rattle.house_turns.proofs.Cuts.{cut_after, cut_before}
use Rattle.house_turns.proofs.Pieces.{last_lines, more_lines, written_more}

-- ---- digits are no separators

-- neither a line end nor a space
abbrev pub IsDigit : ℕ → Type 0
IsDigit b = (b ≢ 10) × (b ≢ 32)

-- a decimal digit
glyph_digit : (d : ℕ) → IsDigit (digit_glyph false d)
glyph_digit d = each (ltb d 10)
  where
    each : (b : Bool) → IsDigit (cond b (48 + d) (87 + d))
    each true = (omega arith, omega arith)
    each false = (omega arith, omega arith)

onto_digits : (k n : ℕ) (acc : List ℕ) → All IsDigit acc → All IsDigit (digits_onto k 10 false n acc)
onto_digits zero n acc all = all
onto_digits (suc k) n acc all =
    let more : All IsDigit (digit_glyph false (n % 10) ∷ acc) = All-cons IsDigit (digit_glyph false (n % 10)) acc (glyph_digit (n % 10)) all in
    elim (eqb (n / 10) 0) as (λ b. All IsDigit (cond b (digit_glyph false (n % 10) ∷ acc) (digits_onto k 10 false (n / 10) (digit_glyph false (n % 10) ∷ acc))))
    [ true ↦ more | false ↦ onto_digits k (n / 10) (digit_glyph false (n % 10) ∷ acc) more ]

pub decimal_digits : (n : ℕ) → All IsDigit (decimal n)
unfolding digits
decimal_digits n = onto_digits 64 n [] (All-nil IsDigit)

-- an octet of a list, or none
at_any : (P : ℕ → Type 0) (xs : List ℕ) (i : ℕ) → AllByRecursion P xs → P 0 → P (get_or xs i 0)
at_any P [] i all none = none
at_any P (x ∷ xs) zero all none = all.0
at_any P (x ∷ xs) (suc i) all none = at_any P xs i all.1 none

-- a hexadecimal digit
digits_of_hex : AllByRecursion IsDigit lower_digits
digits_of_hex = (
  (omega arith, omega arith),
  (
    (omega arith, omega arith),
    (
      (omega arith, omega arith),
      (
        (omega arith, omega arith),
        (
          (omega arith, omega arith),
          (
            (omega arith, omega arith),
            (
              (omega arith, omega arith),
              (
                (omega arith, omega arith),
                (
                  (omega arith, omega arith),
                  (
                    (omega arith, omega arith),
                    (
                      (omega arith, omega arith),
                      (
                        (omega arith, omega arith),
                        (
                          (omega arith, omega arith),
                          (
                            (omega arith, omega arith),
                            (
                              (omega arith, omega arith),
                              (
                                (omega arith, omega arith),
                                tt,
                              ),
                            ),
                          ),
                        ),
                      ),
                    ),
                  ),
                ),
              ),
            ),
          ),
        ),
      ),
    ),
  ),
)

hex_digit : (i : ℕ) → IsDigit (get_or lower_digits i 0)
hex_digit i = at_any IsDigit lower_digits i digits_of_hex (omega arith, omega arith)

pub hex_digits : (xs : List ℕ) → All IsDigit (encode_lower xs)
unfolding encode_with
hex_digits [] = All-nil IsDigit
hex_digits (x ∷ xs) =
    All-cons IsDigit (slice_index lower_digits (x / 16)) (slice_index lower_digits (x % 16) ∷ encode_lower xs) (hex_digit (x / 16))
    (All-cons IsDigit (slice_index lower_digits (x % 16)) (encode_lower xs) (hex_digit (x % 16)) (hex_digits xs))

-- ---- digits in pieces

-- the digits of some octets, and of others
encode-append : (xs ys : List ℕ) → encode_lower (xs ++ ys) ≡ encode_lower xs ++ encode_lower ys
unfolding encode_with
encode-append [] ys = refl
encode-append (x ∷ xs) ys =
    ap (λ (r : List ℕ). slice_index lower_digits (x / 16) ∷ slice_index lower_digits (x % 16) ∷ r) (encode-append xs ys)

-- those of a piece, and what follows
encode_parts : (xs : List ℕ) → encode_lower xs ≡ encode_lower (take 2000 xs) ++ encode_lower (drop 2000 xs)
encode_parts xs = ap encode_lower (sym (take-append-drop 2000 xs)) ∙ encode-append (take 2000 xs) (drop 2000 xs)

front_length : (xs : List ℕ) → 2000 < length xs → length (encode_lower (take 2000 xs)) ≡ 4000
front_length xs many = omega (arith, length-encode_with lower_digits (take 2000 xs), length-take 2000 xs)

encode_front : (xs : List ℕ) → 2000 < length xs → take 4000 (encode_lower xs) ≡ encode_lower (take 2000 xs)
encode_front xs many = ap (take 4000) (encode_parts xs) ∙ take_at (encode_lower (take 2000 xs)) (encode_lower (drop 2000 xs)) 4000 (front_length xs many)

encode_back : (xs : List ℕ) → 2000 < length xs → drop 4000 (encode_lower xs) ≡ encode_lower (drop 2000 xs)
encode_back xs many = ap (drop 4000) (encode_parts xs) ∙ drop_at (encode_lower (take 2000 xs)) (encode_lower (drop 2000 xs)) 4000 (front_length xs many)

-- the digits that are left are those of octets, the lines of which are still to be written
pub record PiecesLeft (p : Post) (digits text before : List ℕ) : Type 0 where
  pub octets : List ℕ
  pub digits_are : digits ≡ encode_lower octets
  pub text_is : text ++ lines_text 0 (piece_lines p.to (pieces_of 2000 octets)) ≡ before ++ lines_text 0 (piece_lines p.to (pieces_of 2000 p.octets))

-- a piece was written
pub piece_written : (p : Post) (to digits text before piece behind after : List ℕ) → PiecesLeft p digits text before → to ≡ decimal p.to
    → 4000 < length digits → piece ≡ take 4000 digits → behind ≡ drop 4000 digits
    → after ≡ text ++ line_text 0 (codes "more " ++ (to ++ (32 ∷ piece))) → PiecesLeft p behind after before
piece_written p to digits text before piece behind after left is many front back wrote =
    let xs : List ℕ = left.octets in
    let long : 2000 < length xs = omega (arith, ap length left.digits_are, length-encode_with lower_digits xs, many) in
    let is_front : piece ≡ encode_lower (take 2000 xs) = front ∙ ap (take 4000) left.digits_are ∙ encode_front xs long in
    record {
      octets = drop 2000 xs;
      digits_are = back ∙ ap (drop 4000) left.digits_are ∙ encode_back xs long;
      text_is =
          written_more 0 text after (before ++ lines_text 0 (piece_lines p.to (pieces_of 2000 p.octets))) (post_line (codes "more ") p.to (take 2000 xs))
          (piece_lines p.to (pieces_of 2000 (drop 2000 xs))) (piece_lines p.to (pieces_of 2000 xs)) (more_lines p.to xs long)
          (wrote ∙ ap (λ (t : List ℕ). text ++ line_text 0 (codes "more " ++ (t ++ (32 ∷ piece)))) is
          ∙ ap (λ (d : List ℕ). text ++ line_text 0 (codes "more " ++ (decimal p.to ++ (32 ∷ d)))) is_front)
          left.text_is;
    }

-- the last one was written
pub pieces_written : (p : Post) (to digits text before after : List ℕ) → PiecesLeft p digits text before → to ≡ decimal p.to
    → length digits ≤ 4000 → after ≡ text ++ line_text 0 (codes "post " ++ (to ++ (32 ∷ digits)))
    → after ≡ before ++ lines_text 0 (piece_lines p.to (pieces_of 2000 p.octets))
pieces_written p to digits text before after left is few wrote =
    let xs : List ℕ = left.octets in
    let short : length xs ≤ 2000 = omega (arith, ap length left.digits_are, length-encode_with lower_digits xs, few) in
    sym (append-nil after)
    ∙ written_more 0 text after (before ++ lines_text 0 (piece_lines p.to (pieces_of 2000 p.octets))) (post_line (codes "post ") p.to xs) []
    (piece_lines p.to (pieces_of 2000 xs)) (last_lines p.to xs short)
    (wrote ∙ ap (λ (t : List ℕ). text ++ line_text 0 (codes "post " ++ (t ++ (32 ∷ digits)))) is
    ∙ ap (λ (d : List ℕ). text ++ line_text 0 (codes "post " ++ (decimal p.to ++ (32 ∷ d)))) left.digits_are)
    left.text_is

-- ---- the line of a message

-- the word of a message
post_word : All IsDigit (codes "post")
post_word = All-from_recursion IsDigit (codes "post") ((omega arith, omega arith), ((omega arith, omega arith), ((omega arith, omega arith), ((omega arith, omega arith), tt))))

pub no_space : (b : ℕ) → IsDigit b → b ≢ 32
no_space b is = is.1

no_end : (b : ℕ) → IsDigit b → b ≢ 10
no_end b is = is.0

-- no line ends in a decimal number
pub decimal_ends_nowhere : (n : ℕ) → HasNoEnd (decimal n)
decimal_ends_nowhere n = All-weaker IsDigit (λ (b : ℕ). b ≢ 10) no_end (decimal n) (decimal_digits n)

-- nor in hexadecimal digits
pub hex_ends_nowhere : (octets : List ℕ) → HasNoEnd (encode_lower octets)
hex_ends_nowhere octets = All-weaker IsDigit (λ (b : ℕ). b ≢ 10) no_end (encode_lower octets) (hex_digits octets)

-- what comes after its word
pub message_cut : (p : Post) (line message : List ℕ) → line ≡ post_line (codes "post ") p.to p.octets → message ≡ after_first (λ b. eqb b 32) line
    → message ≡ decimal p.to ++ (32 ∷ encode_lower p.octets)
message_cut p line message is cut =
    cut_after 32 line (codes "post") (decimal p.to ++ (32 ∷ encode_lower p.octets)) message is (All-weaker IsDigit (λ (b : ℕ). b ≢ 32) no_space (codes "post") post_word) cut

-- the house that it goes to
pub to_cut : (p : Post) (message to : List ℕ) → message ≡ decimal p.to ++ (32 ∷ encode_lower p.octets) → to ≡ before_first (λ b. eqb b 32) message
    → to ≡ decimal p.to
to_cut p message to is cut =
    cut_before 32 message (decimal p.to) (encode_lower p.octets) to is (All-weaker IsDigit (λ (b : ℕ). b ≢ 32) no_space (decimal p.to) (decimal_digits p.to)) cut

-- its octets
pub digits_cut : (p : Post) (message digits : List ℕ) → message ≡ decimal p.to ++ (32 ∷ encode_lower p.octets) → digits ≡ after_first (λ b. eqb b 32) message
    → digits ≡ encode_lower p.octets
digits_cut p message digits is cut =
    cut_after 32 message (decimal p.to) (encode_lower p.octets) digits is (All-weaker IsDigit (λ (b : ℕ). b ≢ 32) no_space (decimal p.to) (decimal_digits p.to)) cut

-- no line ends in it
pub post_has_no_end : (p : Post) → HasNoEnd (post_line (codes "post ") p.to p.octets)
post_has_no_end p =
    let P : ℕ → Type 0 = λ b. b ≢ 10 in
    All-append P (codes "post") (32 ∷ (decimal p.to ++ (32 ∷ encode_lower p.octets))) (All-weaker IsDigit P no_end (codes "post") post_word)
    (All-cons P 32 (decimal p.to ++ (32 ∷ encode_lower p.octets)) (omega arith)
    (All-append P (decimal p.to) (32 ∷ encode_lower p.octets) (All-weaker IsDigit P no_end (decimal p.to) (decimal_digits p.to))
    (All-cons P 32 (encode_lower p.octets) (omega arith) (All-weaker IsDigit P no_end (encode_lower p.octets) (hex_digits p.octets)))))

-- ---- the messages and the answer

-- the line of a message, or of the answer after the last one, and what comes after it
abbrev pub IsCut : List Post → (answer line rest : List ℕ) → Type 0
IsCut [] answer line rest = (line ≡ answer) × (rest ≡ [])
IsCut (p ∷ ps) answer line rest = (line ≡ post_line (codes "post ") p.to p.octets) × (rest ≡ posts_text ps ++ (answer ++ 10 ∷ []))

pub posts_cut : (ps : List Post) (answer octets line rest : List ℕ) → octets ≡ posts_text ps ++ (answer ++ 10 ∷ []) → HasNoEnd answer
    → line ≡ before_first (λ b. eqb b 10) octets → rest ≡ after_first (λ b. eqb b 10) octets → IsCut ps answer line rest
posts_cut [] answer octets line rest is none before after =
    (cut_before 10 octets answer [] line is none before, cut_after 10 octets answer [] rest is none after)
posts_cut (p ∷ ps) answer octets line rest is none before after =
    (cut_before 10 octets first behind line whole (post_has_no_end p) before, cut_after 10 octets first behind rest whole (post_has_no_end p) after)
  where
    first : List ℕ
    first = post_line (codes "post ") p.to p.octets

    behind : List ℕ
    behind = posts_text ps ++ (answer ++ 10 ∷ [])

    whole : octets ≡ first ++ (10 ∷ behind)
    whole =
        is ∙ append_assoc (first ++ 10 ∷ []) (posts_text ps) (answer ++ 10 ∷ []) ∙ append_assoc first (10 ∷ []) behind

-- the messages that are left, and the answer: the lines of them are still to be written
pub record PostsLeft (ps : List Post) (answer line rest text before : List ℕ) : Type 0 where
  pub posts : List Post
  pub cut : IsCut posts answer line rest
  pub text_is : text ++ lines_text 0 (turn_lines posts answer) ≡ before ++ lines_text 0 (turn_lines ps answer)

-- the lines of a message, and of what follows
message_lines : (p : Post) (ps : List Post) (answer : List ℕ)
    → lines_text 0 (turn_lines (p ∷ ps) answer) ≡ lines_text 0 (piece_lines p.to (pieces_of 2000 p.octets)) ++ lines_text 0 (turn_lines ps answer)
message_lines p ps answer =
    ap (λ (ls : List (List ℕ)). lines_text 0 (ls ++ answer ∷ [])) (flat_map-cons (λ (p : Post). piece_lines p.to (pieces_of 2000 p.octets)) p ps)
    ∙ ap (lines_text 0) (append_assoc (piece_lines p.to (pieces_of 2000 p.octets)) (posts_lines ps) (answer ∷ []))
    ∙ flat_map-append (line_text 0) (piece_lines p.to (pieces_of 2000 p.octets)) (turn_lines ps answer)

-- a message was written, and the next line was cut
message_of : (ps posts : List Post) (answer line rest text before after line' rest' : List ℕ) → IsCut posts answer line rest
    → text ++ lines_text 0 (turn_lines posts answer) ≡ before ++ lines_text 0 (turn_lines ps answer) → 0 < length rest → HasNoEnd answer
    → ((p : Post) → line ≡ post_line (codes "post ") p.to p.octets → after ≡ text ++ lines_text 0 (piece_lines p.to (pieces_of 2000 p.octets)))
    → line' ≡ before_first (λ b. eqb b 10) rest → rest' ≡ after_first (λ b. eqb b 10) rest → PostsLeft ps answer line' rest' after before
message_of ps [] answer line rest text before after line' rest' cut is some none wrote first behind = absurd (omega (arith, ap length cut.1, some))
message_of ps (p ∷ qs) answer line rest text before after line' rest' cut is some none wrote first behind =
    record {
      posts = qs;
      cut = posts_cut qs answer rest line' rest' cut.1 none first behind;
      text_is =
          ap (λ (t : List ℕ). t ++ lines_text 0 (turn_lines qs answer)) (wrote p cut.0)
          ∙ append_assoc text (lines_text 0 (piece_lines p.to (pieces_of 2000 p.octets))) (lines_text 0 (turn_lines qs answer))
          ∙ ap (λ (r : List ℕ). text ++ r) (sym (message_lines p qs answer)) ∙ is;
    }

pub message_written : (ps : List Post) (answer line rest text before after line' rest' : List ℕ) → PostsLeft ps answer line rest text before
    → 0 < length rest → HasNoEnd answer
    → ((p : Post) → line ≡ post_line (codes "post ") p.to p.octets → after ≡ text ++ lines_text 0 (piece_lines p.to (pieces_of 2000 p.octets)))
    → line' ≡ before_first (λ b. eqb b 10) rest → rest' ≡ after_first (λ b. eqb b 10) rest → PostsLeft ps answer line' rest' after before
message_written ps answer line rest text before after line' rest' left =
    message_of ps left.posts answer line rest text before after line' rest' left.cut left.text_is

-- the answer was written
answer_of : (ps posts : List Post) (answer line rest text before after : List ℕ) → IsCut posts answer line rest
    → text ++ lines_text 0 (turn_lines posts answer) ≡ before ++ lines_text 0 (turn_lines ps answer) → length rest ≡ 0
    → after ≡ text ++ line_text 0 line → after ≡ before ++ lines_text 0 (turn_lines ps answer)
answer_of ps [] answer line rest text before after cut is none wrote =
    wrote ∙ ap (λ (l : List ℕ). text ++ line_text 0 l) cut.0 ∙ ap (λ (r : List ℕ). text ++ r) (sym (append-nil (line_text 0 answer)))
    ∙ ap (λ (r : List ℕ). text ++ r) (sym (flat_map-cons (line_text 0) answer [])) ∙ is
answer_of ps (p ∷ qs) answer line rest text before after cut is none wrote =
    absurd (omega (arith, ap length cut.1, none, length-append (posts_text qs) (answer ++ 10 ∷ []), length-append answer (10 ∷ [])))

pub answer_written : (ps : List Post) (answer line rest text before after : List ℕ) → PostsLeft ps answer line rest text before → length rest ≡ 0
    → after ≡ text ++ line_text 0 line → after ≡ before ++ lines_text 0 (turn_lines ps answer)
answer_written ps answer line rest text before after left =
    answer_of ps left.posts answer line rest text before after left.cut left.text_is

-- its line was written, and then all else
pub again_written : (line : List ℕ) (ps : List Post) (answer cut before text after : List ℕ) → cut ≡ line
    → text ≡ before ++ line_text 0 (codes "last " ++ said_again cut) → after ≡ text ++ lines_text 0 (turn_lines ps answer)
    → after ≡ before ++ lines_text 0 (again_lines line ps answer)
again_written line ps answer cut before text after is first rest =
    let last : List ℕ = codes "last " ++ said_again line in
    rest
    ∙ ap (λ (t : List ℕ). t ++ lines_text 0 (turn_lines ps answer))
    (first ∙ ap (λ (l : List ℕ). before ++ line_text 0 (codes "last " ++ said_again l)) is)
    ∙ append_assoc before (line_text 0 last) (lines_text 0 (turn_lines ps answer))
    ∙ ap (λ (r : List ℕ). before ++ r) (sym (flat_map-cons (line_text 0) last (turn_lines ps answer)))

-- ---- results

-- a fact that follows where a function was well
pub on_ok : {T E : Type 0} (r : Result T E) {A B : Type 0} → (A → B) → OnOk r A → OnOk r B
on_ok (Ok x) f a = f a
on_ok (Err e) f a = tt

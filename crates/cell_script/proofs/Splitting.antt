-- The first word of a line, and the words after it.
use Rattle.std.proofs.Common.{◌≡◌, ℕ, ◌+◌, ◌<◌, ◌≤◌, suc, Bool, true, false, List, [], ◌∷◌, ◌++◌, take, drop, drop-cons, get_or, add-one, append-nil}
use Rattle.std.proofs.Common.{length, refl, ap, ◌∙◌, sym, arith}
use Rattle.std.specs.Prelude.{not, ◌==◌, ◌&&◌, filter, if◌then◌else◌}
use Rattle.std.specs.List.{slice_split, prefix_len, onto_first}
use Rattle.std.proofs.lemmas.Bool.Decides.{nat_tests}
use Rattle.std.proofs.Math.Numerals.{one-add}
use mir.Val.{bool_byte}
use Rattle.cell_script.specs.Words.{words_of}
use Rattle.cell_script.specs.PrivateCounts.{words_behind}

abbrev is_space : ℕ → Bool
is_space b = b == 32

abbrev is_other : ℕ → Bool
is_other b = not (b == 32)

-- where the first word ends, the parts are that word and the parts after it
abbrev Parts : List ℕ → Type 0
Parts l = slice_split is_space l ≡ take (prefix_len is_other l) l ∷ drop 1 (slice_split is_space (drop (prefix_len is_other l) l))

parts_step : (b : ℕ) (bs : List ℕ) (t : Bool) → (b == 32) ≡ t → Parts bs → Parts (b ∷ bs)
parts_step b bs true is _ = rw (is, is) refl
parts_step b bs false is rest = rw (is, one-add (prefix_len is_other bs)) (ap (onto_first b) rest)

parts : (l : List ℕ) → Parts l
parts [] = refl
parts (b ∷ bs) = parts_step b bs (b == 32) refl (parts bs)

-- and there an empty part begins
abbrev IsEmptyPart : List ℕ → Type 0
IsEmptyPart l = slice_split is_space (drop (prefix_len is_other l) l) ≡ [] ∷ drop 1 (slice_split is_space (drop (prefix_len is_other l) l))

empty_step : (b : ℕ) (bs : List ℕ) (t : Bool) → (b == 32) ≡ t → IsEmptyPart bs → IsEmptyPart (b ∷ bs)
empty_step b bs true is _ = rw (is, is) refl
empty_step b bs false is rest = rw (is, one-add (prefix_len is_other bs)) rest

empty_part : (l : List ℕ) → IsEmptyPart l
empty_part [] = refl
empty_part (b ∷ bs) = empty_step b bs (b == 32) refl (empty_part bs)

abbrev some_octets : List (List ℕ) → List (List ℕ)
some_octets = filter (λ w. not (length w == 0))

kept : (w : List ℕ) (ws : List (List ℕ)) → 0 < length w → some_octets (w ∷ ws) ≡ w ∷ some_octets ws
kept [] ws some = absurd (omega arith)
kept (b ∷ bs) ws some = let full : (length (b ∷ bs) == 0) ≡ false = grind (arith, nat_tests) in rw full refl

-- a line that begins with a word has it, and the words of what is after it
pub first_word : (l : List ℕ) (n : ℕ) → n ≡ prefix_len is_other l → 0 < length (take n l) → words_of l ≡ take n l ∷ words_of (drop n l)
first_word l n is some =
    let front : words_of l ≡ some_octets (take n l ∷ drop 1 (slice_split is_space (drop n l))) = rw is (ap some_octets (parts l)) in
    let back : words_of (drop n l) ≡ some_octets (drop 1 (slice_split is_space (drop n l))) = rw is (ap some_octets (empty_part l)) in
    front ∙ kept (take n l) (drop 1 (slice_split is_space (drop n l))) some ∙ ap (λ (ws : List (List ℕ)). take n l ∷ ws) (sym back)

-- ---- how many words there are

-- the octets after the first word of these, and with one more octet in front that is no space
behind_word : (b : ℕ) (bs : List ℕ) → (b == 32) ≡ false → drop (prefix_len is_other (b ∷ bs)) (b ∷ bs) ≡ drop (prefix_len is_other bs) bs
behind_word b bs other = rw (other, one-add (prefix_len is_other bs)) refl

-- a word begins with an octet that is no space, after none
pub word_begins : (b : ℕ) (bs : List ℕ) → (b == 32) ≡ false → words_behind false (b ∷ bs) ≡ suc (words_behind true bs)
word_begins b bs other =
    let n : ℕ = prefix_len is_other (b ∷ bs) in
    let size : n ≡ suc (prefix_len is_other bs) = rw (other, one-add (prefix_len is_other bs)) refl in
    let some : 0 < length (take n (b ∷ bs)) = rw size (omega arith) in
    ap length (first_word (b ∷ bs) n refl some) ∙ ap (λ (l : List ℕ). suc (length (words_of l))) (behind_word b bs other)

-- within a word none begins
pub word_goes_on : (b : ℕ) (bs : List ℕ) → (b == 32) ≡ false → words_behind true (b ∷ bs) ≡ words_behind true bs
word_goes_on b bs other = ap (λ (l : List ℕ). length (words_of l)) (behind_word b bs other)

-- a space ends a word, or is between words
pub space_between : (in_word : Bool) (b : ℕ) (bs : List ℕ) → (b == 32) ≡ true → words_behind in_word (b ∷ bs) ≡ words_behind false bs
space_between true b bs space = rw (space, space) refl
space_between false b bs space = rw space refl

is_no_space : (t : Bool) → true ≡ not t → t ≡ false
is_no_space true e = cc
is_no_space false e = refl

is_a_space : (t : Bool) → false ≡ not t → t ≡ true
is_a_space true e = refl
is_a_space false e = cc

-- an octet is counted where a word begins with it
pub counts_on : (in_word other : Bool) (b : ℕ) (bs : List ℕ) → other ≡ not (b == 32)
    → words_behind in_word (b ∷ bs) ≡ (if other && not in_word then 1 else 0) + words_behind other bs
counts_on true true b bs is = let h = word_goes_on b bs (is_no_space (b == 32) is) in omega (arith, h)
counts_on false true b bs is = let h = word_begins b bs (is_no_space (b == 32) is) in omega (arith, h)
counts_on true false b bs is = let h = space_between true b bs (is_a_space (b == 32) is) in omega (arith, h)
counts_on false false b bs is = let h = space_between false b bs (is_a_space (b == 32) is) in omega (arith, h)

-- the number of a test
pub byte_is : (b : Bool) → bool_byte b ≡ (if b then 1 else 0)
byte_is true = refl
byte_is false = refl

-- one octet further, with the word that begins there counted
pub counted_on : (xs rest : List ℕ) (i count k total : ℕ) (in_word : Bool) → i < length xs → count + words_behind in_word (drop i xs ++ rest) ≡ total
    → k ≡ bool_byte (not (get_or xs i 0 == 32) && not in_word) → (count + k) + words_behind (not (get_or xs i 0 == 32)) (drop (i + 1) xs ++ rest) ≡ total
counted_on xs rest i count k total in_word within so_far is =
    let e = counts_on in_word (not (get_or xs i 0 == 32)) (get_or xs i 0) (drop (i + 1) xs ++ rest) refl in
    let here : drop i xs ≡ get_or xs i 0 ∷ drop (i + 1) xs = drop-cons xs i 0 within ∙ ap (λ (n : ℕ). get_or xs i 0 ∷ drop n xs) (sym (add-one i)) in
    let all = ap (λ (l : List ℕ). words_behind in_word (l ++ rest)) here ∙ e in
    let one = is ∙ byte_is (not (get_or xs i 0 == 32) && not in_word) in
    omega (arith, so_far, all, one)

-- no word begins where no octet is
none_behind : (in_word : Bool) → words_behind in_word [] ≡ 0
none_behind true = refl
none_behind false = refl

-- all octets further
pub begun_at_end : (xs : List ℕ) (begun count total : ℕ) (in_word goes_on : Bool)
    → ((rest : List ℕ) → begun + words_behind goes_on rest ≡ words_behind in_word (xs ++ rest)) → count + words_behind in_word xs ≡ total
    → count + begun ≡ total
begun_at_end xs begun count total in_word goes_on more so_far =
    let all = more [] ∙ ap (words_behind in_word) (append-nil xs) in
    omega (arith, so_far, all, none_behind goes_on)

-- no more than one
pub at_most_one : (b : Bool) (k : ℕ) → k ≡ bool_byte b → k ≤ 1
at_most_one true k is = omega (arith, is)
at_most_one false k is = omega (arith, is)

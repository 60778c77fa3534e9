-- Lines after others.
use Rattle.std.proofs.Common.{◌≡◌, ◌∙◌, ℕ, ◌+◌, ◌<◌, List, [], ◌∷◌, ◌++◌, length, get_or, map, take, refl, sym, ap, arith, add-one, append_assoc, append-nil}
use Rattle.std.specs.Fmt.{decimal}
use Rattle.std.proofs.Math.Seq.{take-suc}
use Rattle.std.proofs.lemmas.List.{map-append}
use Rattle.std.proofs.lemmas.List.Concat.{flat_map-append}
use Rattle.tower_codec.specs.declared.binding.StringBinding.{StringBinding}
use Rattle.script_answers.specs.Texts.{line_text, lines_text}
use Rattle.inquire_forms.specs.InquireTexts.{line_after, lines_after, total}

-- lines after lines, after a text
pub more_lines : (front : List ℕ) (old : List ℕ) (lines more : List (List ℕ))
    → (old ++ lines_after front lines) ++ lines_after front more ≡ old ++ lines_after front (lines ++ more)
more_lines front old lines more =
    append_assoc old (lines_after front lines) (lines_after front more)
    ∙ ap (λ (t : List ℕ). old ++ t) (sym (flat_map-append (line_after front) lines more))

-- a last line after lines, after a text
pub last_line : (front : List ℕ) (old : List ℕ) (lines : List (List ℕ)) (last : List ℕ)
    → (old ++ lines_after front lines) ++ line_after front last ≡ old ++ lines_after front (lines ++ last ∷ [])
last_line front old lines last =
    ap (λ (t : List ℕ). (old ++ lines_after front lines) ++ t) (sym (append-nil (line_after front last))) ∙ more_lines front old lines (last ∷ [])

-- a line that begins with a word, says more and ends, after a text
pub line_ends : (front : List ℕ) (old word said begun grown new : List ℕ) → begun ≡ old ++ (front ++ (word ++ 32 ∷ []))
    → grown ≡ begun ++ said → new ≡ grown ++ 10 ∷ [] → new ≡ old ++ line_after front (word ++ (32 ∷ said))
line_ends front old word said begun grown new begins says ends =
    ends ∙ ap (λ (t : List ℕ). t ++ 10 ∷ []) (says ∙ ap (λ (t : List ℕ). t ++ said) begins) ∙ simp append_assoc

-- lines after a number are those after the number and a space
pub by_number : (number : ℕ) (lines : List (List ℕ)) → lines_after (decimal number ++ 32 ∷ []) lines ≡ lines_text number lines
by_number number [] = refl
by_number number (line ∷ lines) =
    ap (λ (t : List ℕ). t ++ lines_after (decimal number ++ 32 ∷ []) lines) (append_assoc (decimal number) (32 ∷ []) (line ++ 10 ∷ []))
    ∙ ap (λ (t : List ℕ). line_text number line ++ t) (by_number number lines)

-- one more item of a list, seen by f
one_more : {A B : Type 0} (f : A → B) (xs : List A) (i : ℕ) (x : A) → i < length xs → x ≡ get_or xs i x
    → map f (take (i + 1) xs) ≡ map f (take i xs) ++ f x ∷ []
one_more {A} f xs i x within is =
    rw (add-one, take-suc xs i x within) (map-append f (take i xs) (get_or xs i x ∷ []) ∙ ap (λ (y : A). map f (take i xs) ++ f y ∷ []) (sym is))

-- the line of one more item, after a text
pub one_more_line : {A : Type 0} (line : A → List ℕ) (front : List ℕ) (xs : List A) (i : ℕ) (x : A) (old now new : List ℕ) → i < length xs → x ≡ get_or xs i x
    → now ≡ old ++ lines_after front (map line (take i xs)) → new ≡ now ++ line_after front (line x)
    → new ≡ old ++ lines_after front (map line (take (i + 1) xs))
one_more_line line front xs i x old now new within is so_far more =
    more ∙ ap (λ (t : List ℕ). t ++ line_after front (line x)) so_far ∙ last_line front old (map line (take i xs)) (line x)
    ∙ ap (λ (lines : List (List ℕ)). old ++ lines_after front lines) (sym (one_more line xs i x within is))

-- how many there are with one batch more
total_last : (bs : List (List StringBinding)) (b : List StringBinding) → total (bs ++ b ∷ []) ≡ total bs + length b
total_last [] b = omega arith
total_last (x ∷ xs) b = let rest = total_last xs b in omega (arith, rest)

-- the same of batches that are seen by f
pub total_more : {V : Type 0} (f : V → List StringBinding) (xs : List V) (i : ℕ) (x : V) → i < length xs → x ≡ get_or xs i x
    → total (map f (take (i + 1) xs)) ≡ total (map f (take i xs)) + length (f x)
total_more f xs i x within is = ap total (one_more f xs i x within is) ∙ total_last (map f (take i xs)) (f x)

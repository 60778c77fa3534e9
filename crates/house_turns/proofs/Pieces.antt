-- Octets in pieces: the first piece and the others.
use Rattle.std.proofs.Common.{◌≡◌, ℕ, zero, suc, ◌+◌, ◌≤◌, ◌<◌, List, [], ◌∷◌, ◌++◌, length, take, drop, refl, sym, ◌∙◌, ap, arith, append_assoc, append-nil, get_or}
use Rattle.std.specs.Prelude.{codes, map}
use Rattle.std.proofs.lemmas.Grind.{flat_map-append}
use Rattle.std.proofs.lemmas.List.{drop_all, length-drop, map-append, take_all, take_more}
use Rattle.std.proofs.lemmas.List.Concat.{flat_map-cons}
use Rattle.script_answers.specs.Texts.{line_text, lines_text}
use Rattle.house_turns.specs.PostTexts.{pieces_after, pieces_of, piece_lines, post_line}

-- the pieces after some octets are those of the others
pub pieces_later : (size k : ℕ) (xs : List ℕ) → pieces_after size k xs ≡ pieces_of size (drop k xs)
unfolding pieces_after
pieces_later size zero xs = refl
pieces_later size (suc k) [] = refl
pieces_later size (suc k) (x ∷ xs) = pieces_later size k xs

-- the first piece, and the others
pub pieces_next : (xs : List ℕ) → 0 < length xs → pieces_of 2000 xs ≡ take 2000 xs ∷ pieces_of 2000 (drop 2000 xs)
unfolding pieces_after
pieces_next [] some = absurd (omega (arith, some))
pieces_next (x ∷ xs) some = ap (λ (ps : List (List ℕ)). take 2000 (x ∷ xs) ∷ ps) (pieces_later 2000 1999 xs)

-- no octets have no piece
pub pieces_none : (xs : List ℕ) → length xs ≡ 0 → pieces_of 2000 xs ≡ []
unfolding pieces_after
pieces_none [] none = refl
pieces_none (x ∷ xs) none = absurd (omega (arith, none))

-- the last piece
pub pieces_last : (xs : List ℕ) → 0 < length xs → length xs ≤ 2000 → pieces_of 2000 xs ≡ xs ∷ []
unfolding pieces_after
pieces_last xs some few =
    pieces_next xs some ∙ ap (λ (p : List ℕ). p ∷ pieces_of 2000 (drop 2000 xs)) (take_all 2000 xs few)
    ∙ ap (λ (r : List ℕ). xs ∷ pieces_of 2000 r) (drop_all 2000 xs few)

-- a message of more than one piece
pub more_lines : (to : ℕ) (xs : List ℕ) → 2000 < length xs
    → piece_lines to (pieces_of 2000 xs) ≡ post_line (codes "more ") to (take 2000 xs) ∷ piece_lines to (pieces_of 2000 (drop 2000 xs))
more_lines to xs many =
    let rest : List ℕ = drop 2000 xs in
    let left = length-drop 2000 xs in
    let later : pieces_of 2000 rest ≡ take 2000 rest ∷ pieces_of 2000 (drop 2000 rest) = pieces_next rest (omega (arith, many, left)) in
    ap (piece_lines to) (pieces_next xs (omega (arith, many)) ∙ ap (λ (ps : List (List ℕ)). take 2000 xs ∷ ps) later)
    ∙ ap (λ (ps : List (List ℕ)). post_line (codes "more ") to (take 2000 xs) ∷ piece_lines to ps) (sym later)

-- a message of one piece
pub last_lines : (to : ℕ) (xs : List ℕ) → length xs ≤ 2000 → piece_lines to (pieces_of 2000 xs) ≡ post_line (codes "post ") to xs ∷ []
unfolding pieces_after
last_lines to [] few = refl
last_lines to (x ∷ xs) few = ap (piece_lines to) (pieces_last (x ∷ xs) (omega arith) few)

-- ---- lines that are written one by one

-- a line was written, and the others are still to be
pub written_more : (n : ℕ) (t t' all l : List ℕ) (ls more : List (List ℕ)) → more ≡ l ∷ ls → t' ≡ t ++ line_text n l
    → t ++ lines_text n more ≡ all → t' ++ lines_text n ls ≡ all
written_more n t t' all l ls more is wrote before =
    ap (λ (x : List ℕ). x ++ lines_text n ls) wrote ∙ append_assoc t (line_text n l) (lines_text n ls)
    ∙ ap (λ (x : List ℕ). t ++ x) (sym (flat_map-cons (line_text n) l ls)) ∙ ap (λ (m : List (List ℕ)). t ++ lines_text n m) (sym is) ∙ before

-- the last line was written after all others
pub written_last : (n : ℕ) (t t' t'' e : List ℕ) (ls : List (List ℕ)) → t' ≡ t ++ lines_text n ls → t'' ≡ t' ++ line_text n e
    → t'' ≡ t ++ lines_text n (ls ++ e ∷ [])
written_last n t t' t'' e ls wrote last =
    last ∙ ap (λ (x : List ℕ). x ++ line_text n e) wrote ∙ append_assoc t (lines_text n ls) (line_text n e)
    ∙ ap (λ (x : List ℕ). t ++ (lines_text n ls ++ x)) (sym (append-nil (line_text n e)))
    ∙ ap (λ (x : List ℕ). t ++ (lines_text n ls ++ x)) (sym (flat_map-cons (line_text n) e []))
    ∙ ap (λ (x : List ℕ). t ++ x) (sym (flat_map-append (line_text n) ls (e ∷ [])))

-- a line was written of one more of some items
pub written_item : {X : Type 0} (n : ℕ) (f : X → List ℕ) (t t' : List ℕ) (xs : List X) (i : ℕ) (x d : X) → i < length xs → x ≡ get_or xs i d
    → t ≡ lines_text n (map f (take i xs)) → t' ≡ t ++ line_text n (f x) → t' ≡ lines_text n (map f (take (i + 1) xs))
written_item {X} n f t t' xs i x d within is before wrote =
    wrote ∙ ap (λ (r : List ℕ). r ++ line_text n (f x)) before
    ∙ ap (λ (r : List ℕ). lines_text n (map f (take i xs)) ++ r) (sym (append-nil (line_text n (f x))))
    ∙ sym (flat_map-append (line_text n) (map f (take i xs)) (f x ∷ []))
    ∙ ap (lines_text n) (sym (map-append f (take i xs) (x ∷ [])))
    ∙ ap (λ (y : X). lines_text n (map f (take i xs ++ y ∷ []))) is
    ∙ ap (λ (ys : List X). lines_text n (map f ys)) (sym (take_more xs i d within))

-- the number of a line, its words and its end
pub line_whole : (digits t words : List ℕ) → ((t ++ (digits ++ 32 ∷ [])) ++ words) ++ 10 ∷ [] ≡ t ++ (digits ++ (32 ∷ (words ++ 10 ∷ [])))
line_whole digits t words =
    append_assoc (t ++ (digits ++ 32 ∷ [])) words (10 ∷ []) ∙ append_assoc t (digits ++ 32 ∷ []) (words ++ 10 ∷ [])
    ∙ ap (λ (r : List ℕ). t ++ r) (append_assoc digits (32 ∷ []) (words ++ 10 ∷ []))

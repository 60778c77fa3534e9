-- Text that grows after what stood before.
use Rattle.std.proofs.Common.{◌≡◌, ◌≤◌, ◌<◌, ◌+◌, List, [], ◌∷◌, ℕ, ◌++◌, take, drop, get_or, length, map, refl, sym, ap, ◌∙◌, append_assoc, append-nil, add-one}
use Rattle.std.specs.Prelude.{Option, Some, None, Result, Ok, Err, OnErr, codes}
use Rattle.std.specs.List.{flat_map}
use Rattle.std.proofs.lemmas.List.{take-append-drop, take_all}
use Rattle.std.proofs.lemmas.List.Concat.{flat_map-append}
use Rattle.std.proofs.Math.Seq.{take-append_seam, take-suc}
use Rattle.script_answers.specs.declared.answer.ScriptRefusal.TheVariants as why
use Rattle.script_answers.specs.Texts.{line_text, lines_text, refusal_words, spaced, unwords}

-- what a text began with before it grew still begins it, where the grown text does
pub still_begins : (a x b c : List ℕ) → b ≡ a ++ x → take (length b) c ≡ b → take (length a) c ≡ a
still_begins a x b c grown begun =
    let whole : c ≡ a ++ (x ++ drop (length b) c) =
    sym (take-append-drop (length b) c) ∙ ap (λ (l : List ℕ). l ++ drop (length b) c) (begun ∙ grown) ∙ append_assoc a x (drop (length b) c) in
    ap (take (length a)) whole ∙ take-append_seam a (x ++ drop (length b) c)

-- what holds holds after an error
pub on_err : {T E P : Type 0} (r : Result T E) → P → OnErr r P
on_err (Ok x) p = tt
on_err (Err e) p = p

-- the text of one line alone
pub one_line : (number : ℕ) (said : List ℕ) → lines_text number (said ∷ []) ≡ line_text number said
one_line number said = append-nil (line_text number said)

-- three texts that are put one after another are put together
pub three_parts : (old a d s m mid more end : List ℕ) → mid ≡ old ++ a → more ≡ mid ++ d → end ≡ more ++ (s ++ m) → end ≡ old ++ ((a ++ (d ++ s)) ++ m)
three_parts old a d s m mid more end first second third =
    third
    ∙ ap (λ (l : List ℕ). l ++ (s ++ m)) (second ∙ ap (λ (l : List ℕ). l ++ d) first)
    ∙ append_assoc (old ++ a) d (s ++ m)
    ∙ append_assoc old a (d ++ (s ++ m))
    ∙ ap (λ (l : List ℕ). old ++ l) (sym (append_assoc a (d ++ s) m ∙ ap (λ (l : List ℕ). a ++ l) (append_assoc d s m)))

-- words are the first one and the others
pub first_and_rest : (ws : List (List ℕ)) → get_or ws 0 [] ++ spaced (drop 1 ws) ≡ unwords ws
first_and_rest [] = refl
first_and_rest (w ∷ ws) = refl

-- words after a space each are a space, the first one, and the others
pub first_spaced : (w : List ℕ) (ws : List (List ℕ)) → take 1 ws ≡ w ∷ [] → (32 ∷ w) ++ spaced (drop 1 ws) ≡ spaced ws
first_spaced w [] is = absurd cc
first_spaced w (v ∷ ws) is = let same : v ≡ w = cc in ap (λ (u : List ℕ). (32 ∷ u) ++ spaced ws) (sym same)

-- the name of that no stamp was left is the same, whether updates are counted or not
pub spent_name : (accepted : Option ℕ) (posted : List ℕ) → take 1 (refusal_words (why.StampsSpent accepted posted)) ≡ codes "StampsSpent" ∷ []
spent_name None posted = refl
spent_name (Some n) posted = refl

-- words of many things, each after a space
pub spaced_map : {A : Type 0} (says : A → List ℕ) (xs : List A) → flat_map (λ x. 32 ∷ says x) xs ≡ spaced (map says xs)
spaced_map says [] = refl
spaced_map says (x ∷ xs) = ap (λ (l : List ℕ). (32 ∷ says x) ++ l) (spaced_map says xs)

-- a row of pieces, and one piece more
row_one : {A : Type 0} (piece : A → List ℕ) (xs : List A) (i : ℕ) (d : A) → i < length xs
    → flat_map piece (take (i + 1) xs) ≡ flat_map piece (take i xs) ++ piece (get_or xs i d)
row_one piece xs i d within =
    rw (add-one, take-suc xs i d within) (flat_map-append piece (take i xs) (get_or xs i d ∷ [])
    ∙ ap (λ (p : List ℕ). flat_map piece (take i xs) ++ p) (append-nil (piece (get_or xs i d))))

-- a line goes on by one more piece of a row
pub row_goes_on : {A : Type 0} (piece : A → List ℕ) (xs : List A) (i : ℕ) (d : A) (old front line new : List ℕ) → i < length xs
    → line ≡ old ++ (front ++ flat_map piece (take i xs)) → new ≡ line ++ piece (get_or xs i d)
    → new ≡ old ++ (front ++ flat_map piece (take (i + 1) xs))
row_goes_on piece xs i d old front line new within so_far more =
    more
    ∙ ap (λ (l : List ℕ). l ++ piece (get_or xs i d)) so_far
    ∙ append_assoc old (front ++ flat_map piece (take i xs)) (piece (get_or xs i d))
    ∙ ap (λ (l : List ℕ). old ++ l) (append_assoc front (flat_map piece (take i xs)) (piece (get_or xs i d))
    ∙ ap (λ (l : List ℕ). front ++ l) (sym (row_one piece xs i d within)))

-- a line after the last piece of a row
pub row_ends : {A : Type 0} (piece : A → List ℕ) (xs : List A) (i : ℕ) (old front line : List ℕ) → length xs ≤ i
    → line ≡ old ++ (front ++ flat_map piece (take i xs)) → line ≡ old ++ (front ++ flat_map piece xs)
row_ends piece xs i old front line over so_far = so_far ∙ ap (λ ys. old ++ (front ++ flat_map piece ys)) (take_all i xs over)

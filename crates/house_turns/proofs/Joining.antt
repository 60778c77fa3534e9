-- Words with one space between two.
use Rattle.std.proofs.Common.{◌≡◌, ℕ, List, [], ◌∷◌, ◌++◌, sym, ap, ◌∙◌, append_assoc, append-nil}
use Rattle.std.specs.List.{flat_map}
use Rattle.std.proofs.lemmas.List.Concat.{flat_map-cons}
use Rattle.house_turns.specs.HouseReplies.{with_spaces}

-- words, each after a space
abbrev pub spaced : List (List ℕ) → List ℕ
spaced = flat_map (λ (w : List ℕ). 32 ∷ w)

-- the first word, and the others
pub joined_spaced : (w : List ℕ) (ws : List (List ℕ)) → with_spaces (w ∷ ws) ≡ w ++ spaced ws
joined_spaced w [] = sym (append-nil w)
joined_spaced w (v ∷ ws) =
    ap (λ (r : List ℕ). w ++ (32 ∷ r)) (joined_spaced v ws) ∙ ap (λ (r : List ℕ). w ++ r) (sym (flat_map-cons (λ (w : List ℕ). 32 ∷ w) v ws))

-- the first word was written
pub joined_first : (all ws : List (List ℕ)) (w text : List ℕ) → all ≡ w ∷ ws → text ≡ [] ++ w → text ++ spaced ws ≡ with_spaces all
joined_first all ws w text is wrote =
    ap (λ (t : List ℕ). t ++ spaced ws) wrote ∙ sym (joined_spaced w ws) ∙ ap with_spaces (sym is)

-- another one was written
pub joined_next : (rest ws : List (List ℕ)) (w text spaces after all : List ℕ) → rest ≡ w ∷ ws → spaces ≡ text ++ 32 ∷ [] → after ≡ spaces ++ w
    → text ++ spaced rest ≡ all → after ++ spaced ws ≡ all
joined_next rest ws w text spaces after all is space wrote before =
    ap (λ (t : List ℕ). t ++ spaced ws) (wrote ∙ ap (λ (t : List ℕ). t ++ w) space ∙ append_assoc text (32 ∷ []) w)
    ∙ append_assoc text (32 ∷ w) (spaced ws)
    ∙ ap (λ (r : List ℕ). text ++ r) (sym (flat_map-cons (λ (w : List ℕ). 32 ∷ w) w ws))
    ∙ ap (λ (ws : List (List ℕ)). text ++ spaced ws) (sym is) ∙ before

-- none is left
pub joined_all : (rest : List (List ℕ)) (text all : List ℕ) → rest ≡ [] → text ++ spaced rest ≡ all → text ≡ all
joined_all rest text all none before = sym (append-nil text) ∙ ap (λ (ws : List (List ℕ)). text ++ spaced ws) (sym none) ∙ before

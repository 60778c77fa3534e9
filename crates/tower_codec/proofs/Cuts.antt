-- Texts that are cut at their first mark.
use Rattle.std.proofs.Common.{◌≡◌, ℕ, suc, ◌+◌, ◌<◌, ◌≤◌, Bool, true, false, not, eqb, ◌==◌, ◌&&◌, List, [], ◌∷◌, ◌++◌, length, get_or, take, drop}
use Rattle.std.proofs.Common.{Option, Some, None, refl, sym, ap, subst, ◌∙◌, append_assoc, arith, inl, inr}
use Rattle.std.specs.Option.{option_map}
use Rattle.std.proofs.lemmas.Bool.{eq-eqb, ne_eqb, cases_eq, and_parts, and_from, not-true, not_from_false}
use Rattle.std.proofs.lemmas.List.{append-nil, take_more, drop_more, drop_all}
use Rattle.tower_codec.specs.BindingReading.{cut_at_mark}

abbrev Parts : Type 0
Parts = Option (List ℕ × List ℕ)

-- A cut after a front that has no mark.
abbrev pub behind : List ℕ → Option (List ℕ × List ℕ) → Option (List ℕ × List ℕ)
behind front parts = option_map (λ p. (front ++ p.0, p.1)) parts

pub behind_none : (parts : Option (List ℕ × List ℕ)) → behind [] parts ≡ parts
behind_none None = refl
behind_none (Some p) = refl

behind_more : (front : List ℕ) (c : ℕ) (parts : Option (List ℕ × List ℕ))
    → behind front (option_map (λ p. (c ∷ p.0, p.1)) parts) ≡ behind (front ++ c ∷ []) parts
behind_more front c None = refl
behind_more front c (Some p) = ap (λ (x : List ℕ). Some (x, p.1)) (sym (append_assoc front (c ∷ []) p.0))

-- One octet on, which is no mark.
pub cut_on : (mark : ℕ) (text : List ℕ) (i : ℕ) → i < length text → (get_or text i 0 ≡ mark → ⊥)
    → behind (take (i + 1) text) (cut_at_mark mark (drop (i + 1) text)) ≡ behind (take i text) (cut_at_mark mark (drop i text))
unfolding cut_at_mark
cut_on mark text i within other =
    let test : eqb (get_or text i 0) mark ≡ false = ne_eqb (get_or text i 0) mark other in
    let here : cut_at_mark mark (drop i text) ≡ option_map (λ p. (get_or text i 0 ∷ p.0, p.1))
    (cut_at_mark mark (drop (i + 1) text)) = rw (drop_more text i 0 within, test) refl in
    sym (ap (behind (take i text)) here ∙ behind_more (take i text) (get_or text i 0) (cut_at_mark mark (drop (i + 1) text))
    ∙ ap (λ (f : List ℕ). behind f (cut_at_mark mark (drop (i + 1) text))) (sym (take_more text i 0 within)))

-- The mark is there.
pub cut_here : (mark : ℕ) (text : List ℕ) (i : ℕ) → i < length text → get_or text i 0 ≡ mark
    → behind (take i text) (cut_at_mark mark (drop i text)) ≡ Some (take i text, drop (i + 1) text)
unfolding cut_at_mark
cut_here mark text i within same =
    let test : eqb (get_or text i 0) mark ≡ true = eq-eqb (get_or text i 0) mark same in
    let here : cut_at_mark mark (drop i text) ≡ Some ([], drop (i + 1) text) = rw (drop_more text i 0 within, test) refl in
    ap (behind (take i text)) here ∙ ap (λ (x : List ℕ). Some (x, drop (i + 1) text)) (append-nil (take i text))

-- No mark is there.
pub cut_end : (mark : ℕ) (text : List ℕ) (i : ℕ) → length text ≤ i → behind (take i text) (cut_at_mark mark (drop i text)) ≡ None
unfolding cut_at_mark
cut_end mark text i over = rw (drop_all i text over) refl

-- ---- Cuts of texts that are made of parts.

-- The text lacks the mark.
abbrev pub lacks : ℕ → List ℕ → Bool
lacks mark [] = true
lacks mark (c ∷ text) = not (c == mark) && lacks mark text

-- A text lacks a mark that both its parts lack.
pub lacks-append : (mark : ℕ) (a b : List ℕ) → lacks mark a ≡ true → lacks mark b ≡ true → lacks mark (a ++ b) ≡ true
lacks-append mark [] b g h = h
lacks-append mark (c ∷ a) b g h =
    let parts = and_parts (not (eqb c mark)) (lacks mark a) g in
    and_from (not (eqb c mark)) (lacks mark (a ++ b)) parts.0 (lacks-append mark a b parts.1 h)

-- A text lacks a mark that is at none of its places.
pub lacks_from : (mark : ℕ) (text : List ℕ) → ((k : ℕ) → k < length text → get_or text k 0 ≡ mark → ⊥) → lacks mark text ≡ true
lacks_from mark [] other = refl
lacks_from mark (c ∷ text) other =
    and_from (not (eqb c mark)) (lacks mark text) (not_from_false (eqb c mark) (ne_eqb c mark (other 0 (omega arith))))
    (lacks_from mark text (λ k within. other (suc k) (omega arith)))

-- A text is cut at a mark after a front that lacks it.
pub cut_again : (mark : ℕ) (front back : List ℕ) → lacks mark front ≡ true → cut_at_mark mark (front ++ mark ∷ back) ≡ Some (front, back)
unfolding cut_at_mark
cut_again mark [] back h = rw (eq-eqb mark mark refl) refl
cut_again mark (c ∷ front) back h =
    let parts = and_parts (not (eqb c mark)) (lacks mark front) h in
    rw (not-true (eqb c mark) parts.0, cut_again mark front back parts.1) refl

-- A text that lacks the mark is not cut.
pub cut_none : (mark : ℕ) (text : List ℕ) → lacks mark text ≡ true → cut_at_mark mark text ≡ None
unfolding cut_at_mark
cut_none mark [] h = refl
cut_none mark (c ∷ text) h =
    let parts = and_parts (not (eqb c mark)) (lacks mark text) h in
    rw (not-true (eqb c mark) parts.0, cut_none mark text parts.1) refl

-- What an optional cut says of the text.
abbrev CutSays : ℕ → List ℕ → Option (List ℕ × List ℕ) → Type 0
CutSays mark text None = Unit {0}
CutSays mark text (Some p) = text ≡ p.0 ++ mark ∷ p.1

says_more : (mark c : ℕ) (text : List ℕ) (parts : Option (List ℕ × List ℕ)) → CutSays mark text parts
    → CutSays mark (c ∷ text) (option_map (λ p. (c ∷ p.0, p.1)) parts)
says_more mark c text None h = tt
says_more mark c text (Some p) h = ap (λ (x : List ℕ). c ∷ x) h

cut_says : (mark : ℕ) (text : List ℕ) → CutSays mark text (cut_at_mark mark text)
unfolding cut_at_mark
cut_says mark [] = tt
cut_says mark (c ∷ text) =
    elim (cases_eq c mark) [
      | inl same ↦ rw (eq-eqb c mark same) (ap (λ (x : ℕ). x ∷ text) same)
      | inr other ↦ rw (ne_eqb c mark other) (says_more mark c text (cut_at_mark mark text) (cut_says mark text))
    ]

-- A text that is cut is its two parts with the mark between.
pub cut_found : (mark : ℕ) (text : List ℕ) (p : List ℕ × List ℕ) → cut_at_mark mark text ≡ Some p → text ≡ p.0 ++ mark ∷ p.1
cut_found mark text p e = subst (CutSays mark text) e (cut_says mark text)

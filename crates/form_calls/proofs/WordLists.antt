-- Words that are made one by one.
use Rattle.std.proofs.Common.{◌≡◌, ◌++◌, List, [], ◌∷◌, ℕ, sym, subst}
use Rattle.std.specs.List.{AllByRecursion}
use Rattle.std.specs.Str.{IsUtf8}

-- of words of which one lacks something, not all have it
pub not_all : {X : Type 0} (P : X → Type 0) → (front : List X) (one : X) (rest : List X) → ¬ (P one) → ¬ (AllByRecursion P (front ++ one ∷ rest))
not_all P [] one rest lacks = λ all. lacks all.0
not_all P (x ∷ xs) one rest lacks = λ all. not_all P xs one rest lacks all.1

-- words of which some were made and the next lacks it do not all have it
pub not_all_words : (front rest words : List (List ℕ)) (one : List ℕ) (rest' : List (List ℕ)) → front ++ rest ≡ words → rest ≡ one ∷ rest' → ¬ (IsUtf8 one) → ¬ (AllByRecursion IsUtf8 words)
not_all_words front rest words one rest' made next lacks =
    subst (λ ws. ¬ (AllByRecursion IsUtf8 ws)) made (subst (λ r. ¬ (AllByRecursion IsUtf8 (front ++ r))) (sym next) (not_all IsUtf8 front one rest' lacks))

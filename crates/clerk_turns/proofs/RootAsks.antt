-- Houses that are asked one after the other.
use Rattle.std.proofs.Common.{◌≡◌, ℕ, ◌+◌, ◌<◌, ◌≤◌, List, [], ◌∷◌, ◌++◌, length, map, get_or, drop, sym, ◌∙◌, ap, subst, append_assoc, append-nil}
use Rattle.std.proofs.lemmas.List.{drop_all, drop_more}
use Rattle.clerk_turns.specs.declared.clerk.Clerk.{Clerk}
use Rattle.clerk_turns.specs.Asking.{Ask, Puts, PutsEach, no_more, one_more}

-- if what is left is asked from now on, all are asked from the first clerk on
abbrev pub IsAsking : (job : ℕ) (first : Clerk) (all : List Ask) (text : List ℕ) (now : Clerk) (left : List Ask) → Type 0
IsAsking job first all text now left = (more : List ℕ) (after : Clerk) → PutsEach job now left more after → PutsEach job first all (text ++ more) after

-- one more
pub asking_next : (job : ℕ) (first : Clerk) (all : List Ask) (text : List ℕ) (now : Clerk) (ask : Ask) (left : List Ask) (said : List ℕ) (after : Clerk)
    → IsAsking job first all text now (ask ∷ left) → Puts job now ask said after → IsAsking job first all (text ++ said) after left
asking_next job first all text now ask left said after so puts more last rest =
    subst (λ (t : List ℕ). PutsEach job first all t last) (sym (append_assoc text said more)) (so (said ++ more) last (one_more now after last ask left said more puts rest))

-- one question more, in a loop over what is asked
module _ {X : Type 0} (ask : X → Ask) (xs : List X) (i : ℕ) (job : ℕ) (first : Clerk) (text : List ℕ) (now : Clerk) where
  pub asking_at : (x : X) (told said text' : List ℕ) (after : Clerk) → i < length xs → IsAsking job first (map ask xs) text now (map ask (drop i xs))
      → Puts job now (ask (get_or xs i x)) said after → told ≡ said → text' ≡ text ++ told → IsAsking job first (map ask xs) text' after (map ask (drop (i + 1) xs))
  asking_at x told said text' after within so puts same longer =
      let all : List Ask = map ask xs in
      let there : IsAsking job first all text now (ask (get_or xs i x) ∷ map ask (drop (i + 1) xs)) =
      subst (λ (ys : List X). IsAsking job first all text now (map ask ys)) (drop_more xs i x within) so in
      subst (λ (t : List ℕ). IsAsking job first all t after (map ask (drop (i + 1) xs))) (sym (longer ∙ ap (λ (t : List ℕ). text ++ t) same))
      (asking_next job first all text now (ask (get_or xs i x)) (map ask (drop (i + 1) xs)) said after there puts)

  pub asking_more : (x : X) (told said text' : List ℕ) (after : Clerk) → i < length xs → x ≡ get_or xs i x
      → IsAsking job first (map ask xs) text now (map ask (drop i xs)) → Puts job now (ask x) said after → told ≡ said → text' ≡ text ++ told
      → IsAsking job first (map ask xs) text' after (map ask (drop (i + 1) xs))
  asking_more x told said text' after within is so puts same longer =
      asking_at x told said text' after within so (subst (λ (y : X). Puts job now (ask y) said after) is puts) same longer

  pub asked_all : length xs ≤ i → IsAsking job first (map ask xs) text now (map ask (drop i xs)) → PutsEach job first (map ask xs) text now
  asked_all past so =
      let done : IsAsking job first (map ask xs) text now [] = subst (λ (ys : List X). IsAsking job first (map ask xs) text now (map ask ys)) (drop_all i xs past) so in
      subst (λ (t : List ℕ). PutsEach job first (map ask xs) t now) (append-nil text) (done [] now (no_more now))

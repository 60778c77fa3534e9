-- Octets in the middle of a list, as a buffer holds them.
use Rattle.std.proofs.Common.{◌≡◌, ℕ, zero, suc, ◌+◌, ◌-◌, ◌≤◌, ◌<◌, List, [], ◌∷◌, ◌++◌, length, take, drop, get_or, sym, ◌∙◌, ap, subst, arith}
use Rattle.std.proofs.lemmas.List.{drop-drop, drop-take, take-take, length-take, length-drop, length-take-le, ext_get_or, get_or-take, get_or-drop}
use Rattle.std.proofs.Math.Seq.{take-add, take-nil}

abbrev between : List ℕ → ℕ → ℕ → List ℕ
between xs a b = take (b - a) (drop a xs)

-- what is before end is the same
pub between_kept : (old new : List ℕ) (start end : ℕ) → start ≤ end → take end new ≡ take end old → between new start end ≡ between old start end
between_kept old new start end le same =
    let k = end - start in
    let sum : start + k ≡ end = omega arith in
    let P : ℕ → Type 0 = λ e. take e new ≡ take e old in
    sym (drop-take start k new) ∙ ap (drop start) (subst P (sym sum) same) ∙ drop-take start k old

-- n more after the end
pub between_more : (old new : List ℕ) (start end n : ℕ) → start ≤ end → take end new ≡ take end old
    → between new start (end + n) ≡ between old start end ++ between new end (end + n)
between_more old new start end n le same =
    let k = end - start in
    let far : end + n - start ≡ k + n = omega arith in
    let near : n ≡ end + n - end = omega arith in
    let seam : start + k ≡ end = omega arith in
    ap (λ (i : ℕ). take i (drop start new)) far
    ∙ take-add k n (drop start new)
    ∙ ap (λ (l : List ℕ). l ++ take n (drop k (drop start new))) (between_kept old new start end le same)
    ∙ ap (λ (l : List ℕ). between old start end ++ take n l) (drop-drop k start new ∙ ap (λ (i : ℕ). drop i new) seam)
    ∙ ap (λ (i : ℕ). between old start end ++ take i (drop end new)) near

-- what is between the places after the first n
pub between_behind : (xs : List ℕ) (start end n : ℕ) → between xs (start + n) end ≡ drop n (between xs start end)
between_behind xs start end n = ap (λ (l : List ℕ). take (end - (start + n)) l) (sym (drop-drop n start xs))
    ∙ behind n (end - start) (end - (start + n)) (drop start xs) (omega arith)
  where
    behind : (n m k : ℕ) (l : List ℕ) → k ≡ m - n → take k (drop n l) ≡ drop n (take m l)
    behind zero m k l is = let same : k ≡ m = omega (arith, is) in ap (λ (i : ℕ). take i l) same
    behind (suc n) zero k l is = let none : k ≡ 0 = omega (arith, is) in ap (λ (i : ℕ). take i (drop (suc n) l)) none
    behind (suc n) (suc m) k [] is = take-nil k
    behind (suc n) (suc m) k (x ∷ xs) is = behind n m k xs (omega (arith, is))

pub between_front : (xs : List ℕ) (start end n : ℕ) → n ≤ length (between xs start end) → take n (drop start xs) ≡ take n (between xs start end)
between_front xs start end n le = sym (take-take n (end - start) (drop start xs) (omega (arith, length-take (end - start) (drop start xs))))

pub length-between : (xs : List ℕ) (start end : ℕ) → start ≤ end → end ≤ length xs → length (between xs start end) ≡ end - start
length-between xs start end ordered within = length-take-le (end - start) (drop start xs) (omega (arith, length-drop start xs))

-- octets that were copied to the front one by one are those that stood there
pub copied : (old new : List ℕ) (start len : ℕ) → start + len ≤ length old → length new ≡ length old
    → ((k : ℕ) → k < len → get_or new k 0 ≡ get_or old (start + k) 0) → take len new ≡ take len (drop start old)
copied old new start len within same each =
    let size : length (take len new) ≡ len = length-take-le len new (omega arith) in
    let size' : length (take len (drop start old)) ≡ len = length-take-le len (drop start old) (omega (arith, length-drop start old)) in
    ext_get_or 0 (take len new) (take len (drop start old)) (size ∙ sym size')
    (λ k lt. let below : k < len = omega arith in get_or-take len new k 0 below ∙ each k below ∙ sym (get_or-drop start old k 0)
    ∙ sym (get_or-take len (drop start old) k 0 below))

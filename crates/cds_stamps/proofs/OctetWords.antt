-- Octets compared several at a time, as the numbers that they spell with the first octet highest.
use Rattle.std.proofs.Common.{◌≡◌, ◌≢◌, ℕ, zero, suc, ◌+◌, ◌*◌, ◌≤◌, ◌<◌, min, List, [], ◌∷◌, ◌++◌, length, take, drop, get_or}
use Rattle.std.proofs.Common.{Ordering, Less, Equal, Greater, nat_cmp, refl, sym, ap, subst, ◌∙◌, arith, take-append-drop}
use Rattle.std.proofs.Common.{length-drop, length-take-le, take-add, take-take, w32, w64}
use Rattle.std.specs.Int.{from_be_bytes}
use Rattle.std.specs.Ordering.{ordering_then, MatchOrdering}
use Rattle.std.proofs.lemmas.List.{drop_more}
use Rattle.std.proofs.lemmas.Cmp.{ranked, tied_itself, nat_cmp_total}
use Rattle.cds_stamps.specs.Octets.{octets_cmp}

-- each is an octet
abbrev pub AreOctets : List ℕ → Type 0
AreOctets xs = (k : ℕ) → get_or xs k 0 < 256

-- the number that octets spell after the number h
abbrev spelled : ℕ → List ℕ → ℕ
spelled h [] = h
spelled h (x ∷ xs) = spelled (h * 256 + x) xs

-- ---- what the orders of numbers are
less_is : (x y : ℕ) → x < y → nat_cmp x y ≡ Less
less_is x y l = by_order (nat_cmp x y) (ranked x y _ refl)
  where
    by_order : (o : Ordering) → MatchOrdering o (x < y) (x ≡ y) (y < x) → o ≡ Less
    by_order Less r = refl
    by_order Equal r = let e : x ≡ y = r in absurd (omega arith)
    by_order Greater r = let e : y < x = r in absurd (omega arith)

greater_is : (x y : ℕ) → y < x → nat_cmp x y ≡ Greater
greater_is x y l = by_order (nat_cmp x y) (ranked x y _ refl)
  where
    by_order : (o : Ordering) → MatchOrdering o (x < y) (x ≡ y) (y < x) → o ≡ Greater
    by_order Less r = let e : x < y = r in absurd (omega arith)
    by_order Equal r = let e : x ≡ y = r in absurd (omega arith)
    by_order Greater r = refl

-- numbers that differ decide
apart : (x y : ℕ) (rest : Ordering) → x ≢ y → ordering_then (nat_cmp x y) rest ≡ nat_cmp x y
apart x y rest differ = by_order (nat_cmp x y) (ranked x y _ refl)
  where
    by_order : (o : Ordering) → MatchOrdering o (x < y) (x ≡ y) (y < x) → ordering_then o rest ≡ o
    by_order Less r = refl
    by_order Equal r = absurd (differ r)
    by_order Greater r = refl

-- a number after a smaller one is smaller
rising : (h g : ℕ) (us vs : List ℕ) → length us ≡ length vs → AreOctets us → h < g → spelled h us < spelled g vs
rising h g [] [] same octets l = l
rising h g [] (v ∷ vs) same octets l = absurd (omega (arith, same))
rising h g (u ∷ us) [] same octets l = absurd (omega (arith, same))
rising h g (u ∷ us) (v ∷ vs) same octets l =
    let low : u < 256 = octets 0 in
    rising (h * 256 + u) (g * 256 + v) us vs (omega (arith, same)) (λ k. octets (suc k)) (omega arith)

-- as many octets of two lists are in the order of the numbers that they spell, and where these are
-- one, the rest decides
settled : (h : ℕ) (us vs xs ys : List ℕ) → length us ≡ length vs → AreOctets us → AreOctets vs
    → octets_cmp (us ++ xs) (vs ++ ys) ≡ ordering_then (nat_cmp (spelled h us) (spelled h vs)) (octets_cmp xs ys)
settled h [] [] xs ys same left right = ap (λ o. ordering_then o (octets_cmp xs ys)) (sym (tied_itself nat_cmp_total h))
settled h [] (v ∷ vs) xs ys same left right = absurd (omega (arith, same))
settled h (u ∷ us) [] xs ys same left right = absurd (omega (arith, same))
settled h (u ∷ us) (v ∷ vs) xs ys same left right =
    by_order (nat_cmp u v) (ranked u v _ refl) (settled (h * 256 + u) us vs xs ys (omega (arith, same)) (λ k. left (suc k)) (λ k. right (suc k)))
  where
    by_order : (o : Ordering) → MatchOrdering o (u < v) (u ≡ v) (v < u)
        → octets_cmp (us ++ xs) (vs ++ ys) ≡ ordering_then (nat_cmp (spelled (h * 256 + u) us) (spelled (h * 256 + u) vs)) (octets_cmp xs ys)
        → ordering_then o (octets_cmp (us ++ xs) (vs ++ ys))
        ≡ ordering_then (nat_cmp (spelled (h * 256 + u) us) (spelled (h * 256 + v) vs)) (octets_cmp xs ys)
    by_order Less r rest =
        let l : u < v = r in
        let lower = rising (h * 256 + u) (h * 256 + v) us vs (omega (arith, same)) (λ k. left (suc k)) (omega arith) in
        ap (λ o. ordering_then o (octets_cmp xs ys)) (sym (less_is _ _ lower))
    by_order Equal r rest = subst (λ w. octets_cmp (us ++ xs) (vs ++ ys)
        ≡ ordering_then (nat_cmp (spelled (h * 256 + u) us) (spelled (h * 256 + w) vs)) (octets_cmp xs ys)) r rest
    by_order Greater r rest =
        let l : v < u = r in
        let lower = rising (h * 256 + v) (h * 256 + u) vs us (omega (arith, same)) (λ k. right (suc k)) (omega arith) in
        ap (λ o. ordering_then o (octets_cmp xs ys)) (sym (greater_is _ _ lower))

-- as many octets that spell one number are the same
alike : (h : ℕ) (us vs : List ℕ) → length us ≡ length vs → AreOctets us → AreOctets vs → spelled h us ≡ spelled h vs → us ≡ vs
alike h [] [] same left right e = refl
alike h [] (v ∷ vs) same left right e = absurd (omega (arith, same))
alike h (u ∷ us) [] same left right e = absurd (omega (arith, same))
alike h (u ∷ us) (v ∷ vs) same left right e =
    by_order (nat_cmp u v) (ranked u v _ refl) (λ one.
    alike (h * 256 + u) us vs (omega (arith, same)) (λ k. left (suc k)) (λ k. right (suc k)) (e ∙ ap (λ w. spelled (h * 256 + w) vs) (sym one)))
  where
    by_order : (o : Ordering) → MatchOrdering o (u < v) (u ≡ v) (v < u) → (u ≡ v → us ≡ vs) → u ∷ us ≡ v ∷ vs
    by_order Less r rest =
        let l : u < v = r in
        let lower = rising (h * 256 + u) (h * 256 + v) us vs (omega (arith, same)) (λ k. left (suc k)) (omega arith) in
        absurd (omega (arith, lower, e))
    by_order Equal r rest = ap (λ w. w ∷ us) r ∙ ap (λ ws. v ∷ ws) (rest r)
    by_order Greater r rest =
        let l : v < u = r in
        let lower = rising (h * 256 + v) (h * 256 + u) vs us (omega (arith, same)) (λ k. right (suc k)) (omega arith) in
        absurd (omega (arith, lower, e))

-- ---- octets in lists
pub octets_take : (n : ℕ) (xs : List ℕ) → AreOctets xs → AreOctets (take n xs)
octets_take zero xs octets k = omega arith
octets_take (suc n) [] octets k = omega arith
octets_take (suc n) (x ∷ xs) octets zero = octets 0
octets_take (suc n) (x ∷ xs) octets (suc k) = octets_take n xs (λ k. octets (suc k)) k

pub octets_drop : (n : ℕ) (xs : List ℕ) → AreOctets xs → AreOctets (drop n xs)
octets_drop zero xs octets k = octets k
octets_drop (suc n) [] octets k = omega arith
octets_drop (suc n) (x ∷ xs) octets k = octets_drop n xs (λ k. octets (suc k)) k

-- what is after the same octets decides
behind : (p xs ys : List ℕ) → octets_cmp (p ++ xs) (p ++ ys) ≡ octets_cmp xs ys
behind [] xs ys = refl
behind (b ∷ p) xs ys = ap (λ o. ordering_then o (octets_cmp (p ++ xs) (p ++ ys))) (tied_itself nat_cmp_total b) ∙ behind p xs ys

behind_front : (i : ℕ) (xs ys : List ℕ) → take i xs ≡ take i ys → octets_cmp xs ys ≡ octets_cmp (drop i xs) (drop i ys)
behind_front i xs ys same =
    ap (λ zs. octets_cmp zs ys) (sym (take-append-drop i xs))
    ∙ ap (λ zs. octets_cmp (take i xs ++ drop i xs) zs) (sym (take-append-drop i ys))
    ∙ ap (λ p. octets_cmp (take i xs ++ drop i xs) (p ++ drop i ys)) (sym same)
    ∙ behind (take i xs) (drop i xs) (drop i ys)

-- where as many octets as the shorter list has are the same, the lengths decide
pub by_lengths : (xs ys : List ℕ) (n : ℕ) → n ≡ min (length xs) (length ys) → take n xs ≡ take n ys → nat_cmp (length xs) (length ys) ≡ octets_cmp xs ys
by_lengths [] [] n is same = tied_itself nat_cmp_total 0
by_lengths [] (y ∷ ys) n is same = less_is 0 (suc (length ys)) (omega arith)
by_lengths (x ∷ xs) [] n is same = greater_is (suc (length xs)) 0 (omega arith)
by_lengths (x ∷ xs) (y ∷ ys) zero is same = absurd (omega (arith, is))
by_lengths (x ∷ xs) (y ∷ ys) (suc n) is same =
    let first : x ≡ y = cc same in
    let rest : take n xs ≡ take n ys = cc same in
    sym (one_more (length xs) (length ys)) ∙ by_lengths xs ys n (omega (arith, is)) rest
    ∙ ap (λ o. ordering_then o (octets_cmp xs ys)) (sym (ap (nat_cmp x) (sym first) ∙ tied_itself nat_cmp_total x))
  where
    one_more : (a b : ℕ) → nat_cmp a b ≡ nat_cmp (suc a) (suc b)
    one_more a b = by_order (nat_cmp a b) (ranked a b _ refl)
      where
        by_order : (o : Ordering) → MatchOrdering o (a < b) (a ≡ b) (b < a) → o ≡ nat_cmp (suc a) (suc b)
        by_order Less r = let l : a < b = r in sym (less_is (suc a) (suc b) (omega arith))
        by_order Equal r = sym (ap (λ c. nat_cmp (suc a) (suc c)) (sym r) ∙ tied_itself nat_cmp_total (suc a))
        by_order Greater r = let l : b < a = r in sym (greater_is (suc a) (suc b) (omega arith))

-- the first octets that differ decide
pub first_apart : (i : ℕ) (xs ys : List ℕ) → i < length xs → i < length ys → take i xs ≡ take i ys → get_or xs i 0 ≢ get_or ys i 0
    → nat_cmp (get_or xs i 0) (get_or ys i 0) ≡ octets_cmp xs ys
first_apart i xs ys in_xs in_ys same differ =
    sym (behind_front i xs ys same
    ∙ ap (λ zs. octets_cmp zs (drop i ys)) (drop_more xs i 0 in_xs)
    ∙ ap (λ zs. octets_cmp (get_or xs i 0 ∷ drop (i + 1) xs) zs) (drop_more ys i 0 in_ys)
    ∙ apart (get_or xs i 0) (get_or ys i 0) (octets_cmp (drop (i + 1) xs) (drop (i + 1) ys)) differ)

-- ---- a number read of n octets of each list from i on, after octets that are the same
module _ (n : ℕ) (number : List ℕ → ℕ) (reads : (us : List ℕ) → length us ≡ n → number us ≡ spelled 0 us) where
  module _ (xs ys : List ℕ) (left : AreOctets xs) (right : AreOctets ys) (i x y : ℕ) (in_xs : i + n ≤ length xs) (in_ys : i + n ≤ length ys)
      (read_x : x ≡ number (take n (drop i xs))) (read_y : y ≡ number (take n (drop i ys))) where
    part : (zs : List ℕ) → i + n ≤ length zs → length (take n (drop i zs)) ≡ n
    part zs h = length-take-le n (drop i zs) (omega (arith, length-drop i zs))

    left_part : x ≡ spelled 0 (take n (drop i xs))
    left_part = read_x ∙ reads _ (part xs in_xs)

    right_part : y ≡ spelled 0 (take n (drop i ys))
    right_part = read_y ∙ reads _ (part ys in_ys)

    one_length : length (take n (drop i xs)) ≡ length (take n (drop i ys))
    one_length = part xs in_xs ∙ sym (part ys in_ys)

    octets_of : (zs : List ℕ) → AreOctets zs → AreOctets (take n (drop i zs))
    octets_of zs are = octets_take n (drop i zs) (octets_drop i zs are)

    -- numbers that differ decide
    pub decided : take i xs ≡ take i ys → x ≢ y → nat_cmp x y ≡ octets_cmp xs ys
    decided same differ =
        let us = take n (drop i xs) in
        let vs = take n (drop i ys) in
        let rest = octets_cmp (drop n (drop i xs)) (drop n (drop i ys)) in
        sym (behind_front i xs ys same
        ∙ ap (λ zs. octets_cmp zs (drop i ys)) (sym (take-append-drop n (drop i xs)))
        ∙ ap (λ zs. octets_cmp (us ++ drop n (drop i xs)) zs) (sym (take-append-drop n (drop i ys)))
        ∙ settled 0 us vs (drop n (drop i xs)) (drop n (drop i ys)) one_length (octets_of xs left) (octets_of ys right)
        ∙ ap (λ z. ordering_then (nat_cmp z (spelled 0 vs)) rest) (sym left_part)
        ∙ ap (λ z. ordering_then (nat_cmp x z) rest) (sym right_part)
        ∙ apart x y rest differ)

    -- where they are one, the octets are the same so far
    pub same_more : take i xs ≡ take i ys → x ≡ y → take (i + n) xs ≡ take (i + n) ys
    same_more same e =
        let us = alike 0 _ _ one_length (octets_of xs left) (octets_of ys right) (sym left_part ∙ e ∙ right_part) in
        take-add i n xs ∙ ap (λ p. p ++ take n (drop i xs)) same ∙ ap (λ us. take i ys ++ us) us ∙ sym (take-add i n ys)

-- eight octets and four, as they are read
pub eight : (us : List ℕ) → length us ≡ 8 → from_be_bytes w64 us ≡ spelled 0 us
eight (a ∷ b ∷ c ∷ d ∷ e ∷ f ∷ g ∷ h ∷ []) len = omega arith
eight us len = absurd (omega (arith, len))

-- four octets are read as the number that they spell
pub four : (us : List ℕ) → length us ≡ 4 → from_be_bytes w32 us ≡ spelled 0 us
four (a ∷ b ∷ c ∷ d ∷ []) len = omega arith
four us len = absurd (omega (arith, len))

-- octets that are the same are the same before each place
pub same_before : (j i : ℕ) (xs ys : List ℕ) → j ≤ i → take i xs ≡ take i ys → take j xs ≡ take j ys
same_before j i xs ys le same = sym (take-take j i xs le) ∙ ap (take j) same ∙ take-take j i ys le

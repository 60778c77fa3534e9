-- Octets in ascending order, each once: there is one such list of what a list has.
use Rattle.std.proofs.Common.{◌≡◌, ℕ, Bool, List, [], ◌∷◌, ◌++◌, refl, sym, ap, subst, ◌∙◌, ◌⊎◌, inl, inr, ⊎_elim}
use Rattle.std.specs.Prelude.{filter}
use Rattle.std.specs.declared.cmp.Ordering.{Ordering}
use Rattle.std.specs.declared.cmp.Ordering.TheVariants.{Less, Equal, Greater}
use Rattle.std.specs.Ordering.{ordering_reverse}
use Rattle.std.specs.Cmp.Lexicographic.{nat_list_cmp_total}
use Rattle.std.specs.FinMap.Entries.{by_order}
use Rattle.std.specs.List.{Contains, AllByRecursion}
use Rattle.std.specs.List.Sorted.{IsStrictlySortedBy}
use Rattle.std.proofs.lemmas.List.Elements.{Contains-append_left, Contains-push, Contains-push_cases}
use Rattle.std.proofs.lemmas.List.Kept.{IsStrictlySortedBy-filter}
use Rattle.cds_stamps.specs.Octets.{octets_cmp, octets_exact}
use Rattle.cds_stamps.specs.Ascending.{put_in_order, in_ascending_order}
use Rattle.cds_stamps.proofs.ListMembers.{Contains-head, Contains-tail, Contains-none, Contains-cases, Contains-filter, filter-Contains}

-- the octets of a list ascend, each once
abbrev pub Rises : List (List ℕ) → Type 0
Rises = IsStrictlySortedBy octets_cmp

-- the second list has all octets of the first
abbrev pub Within : List (List ℕ) → List (List ℕ) → Type 0
Within xs ys = (o : List ℕ) → Contains xs o → Contains ys o

abbrev Above : List ℕ → List (List ℕ) → Type 0
Above x = AllByRecursion (λ y. octets_cmp x y ≡ Less)

-- ---- the order

turned : (x y : List ℕ) (r : Ordering) → octets_cmp x y ≡ r → octets_cmp y x ≡ ordering_reverse r
turned x y r e = nat_list_cmp_total.antisymm y x ∙ ap ordering_reverse e

never_below_itself : (x : List ℕ) → octets_cmp x x ≡ Less → ⊥
never_below_itself x e = let back : octets_cmp x x ≡ Greater = turned x x Less e in cc

never_both : (x y : List ℕ) → octets_cmp x y ≡ Less → octets_cmp y x ≡ Less → ⊥
never_both x y e f = let back : octets_cmp y x ≡ Greater = turned x y Less e in cc

above_at : (x : List ℕ) (ys : List (List ℕ)) (o : List ℕ) → Above x ys → Contains ys o → octets_cmp x o ≡ Less
above_at x [] o all c = absurd (Contains-none o c)
above_at x (y ∷ ys) o all c = ⊎_elim (λ is. subst (λ z. octets_cmp x z ≡ Less) is all.0) (λ rest. above_at x ys o all.1 rest) (Contains-cases y ys o c)

above_more : (x y : List ℕ) (zs : List (List ℕ)) → octets_cmp x y ≡ Less → Above y zs → Above x zs
above_more x y [] less all = tt
above_more x y (z ∷ zs) less all = (nat_list_cmp_total.trans x y z less all.0, above_more x y zs less all.1)

-- ---- one list

one_head : (x y : List ℕ) (xs ys : List (List ℕ)) → Rises (x ∷ xs) → Rises (y ∷ ys) → Within (x ∷ xs) (y ∷ ys) → Within (y ∷ ys) (x ∷ xs) → x ≡ y
unfolding IsStrictlySortedBy
one_head x y xs ys sx sy to from =
    ⊎_elim sym
    (λ later. ⊎_elim (λ is. is) (λ other. absurd (never_both x y
    (above_at x xs y sx.0 other) (above_at y ys x sy.0 later))) (Contains-cases x xs y (from y (Contains-head y ys))))
    (Contains-cases y ys x (to x (Contains-head x xs)))

-- what is after the same head is within as well
behind : (x y : List ℕ) (xs ys : List (List ℕ)) → Rises (x ∷ xs) → x ≡ y → Within (x ∷ xs) (y ∷ ys) → Within xs ys
unfolding IsStrictlySortedBy
behind x y xs ys sx same to o c =
    ⊎_elim (λ is. absurd (never_below_itself x (subst (λ z. octets_cmp x z ≡ Less) (sym (same ∙ is)) (above_at x xs o sx.0 c)))) (λ later. later)
    (Contains-cases y ys o (to o (Contains-tail x xs o c)))

-- two lists that ascend and have the same octets are one
pub one_order : (xs ys : List (List ℕ)) → Rises xs → Rises ys → Within xs ys → Within ys xs → xs ≡ ys
unfolding IsStrictlySortedBy
one_order [] [] sx sy to from = refl
one_order [] (y ∷ ys) sx sy to from = absurd (Contains-none y (from y (Contains-head y ys)))
one_order (x ∷ xs) [] sx sy to from = absurd (Contains-none x (to x (Contains-head x xs)))
one_order (x ∷ xs) (y ∷ ys) sx sy to from =
    let same : x ≡ y = one_head x y xs ys sx sy to from in
    let rest : xs ≡ ys = one_order xs ys sx.1 sy.1 (behind x y xs ys sx same to) (behind y x ys xs sy (sym same) from) in
    λ i. same i ∷ rest i

-- ---- octets put in order

put-above : (x o : List ℕ) (ps : List (List ℕ)) → octets_cmp x o ≡ Less → Above x ps → Above x (put_in_order o ps)
put-above x o [] less all = (less, tt)
put-above x o (p ∷ ps) less all = by_case (octets_cmp o p) (put-above x o ps less all.1)
  where
    by_case : (r : Ordering) → Above x (put_in_order o ps) → Above x (by_order r (o ∷ p ∷ ps) (p ∷ ps) (p ∷ put_in_order o ps))
    by_case Less later = (less, all)
    by_case Equal later = all
    by_case Greater later = (all.0, later)

put-rises : (o : List ℕ) (ps : List (List ℕ)) → Rises ps → Rises (put_in_order o ps)
unfolding IsStrictlySortedBy
put-rises o [] rises = (tt, tt)
put-rises o (p ∷ ps) rises = by_case (octets_cmp o p) refl (put-rises o ps rises.1)
  where
    by_case : (r : Ordering) → octets_cmp o p ≡ r → Rises (put_in_order o ps) → Rises (by_order r (o ∷ p ∷ ps) (p ∷ ps) (p ∷ put_in_order o ps))
    by_case Less is later = ((is, above_more o p ps is rises.0), rises)
    by_case Equal is later = rises
    by_case Greater is later = (put-above p o ps (turned o p Greater is) rises.0, later)

put-has : (o : List ℕ) (ps : List (List ℕ)) (q : List ℕ) → (o ≡ q) ⊎ Contains ps q → Contains (put_in_order o ps) q
put-has o [] q h = ⊎_elim (λ is. subst (Contains (o ∷ [])) is (Contains-head o [])) (λ none. absurd (Contains-none q none)) h
put-has o (p ∷ ps) q h = by_case (octets_cmp o p) refl (put-has o ps q) h
  where
    further : ((o ≡ q) ⊎ Contains ps q → Contains (put_in_order o ps) q) → (p ≡ q) ⊎ Contains ps q → Contains (p ∷ put_in_order o ps) q
    further later =
        ⊎_elim (λ same. subst (Contains (p ∷ put_in_order o ps)) same (Contains-head p (put_in_order o ps)))
        (λ rest. Contains-tail p (put_in_order o ps) q (later (inr rest)))

    by_case : (r : Ordering) → octets_cmp o p ≡ r → ((o ≡ q) ⊎ Contains ps q → Contains (put_in_order o ps) q) → (o ≡ q) ⊎ Contains (p ∷ ps) q
        → Contains (by_order r (o ∷ p ∷ ps) (p ∷ ps) (p ∷ put_in_order o ps)) q
    by_case Less is later g = ⊎_elim (λ same. subst (Contains (o ∷ p ∷ ps)) same (Contains-head o (p ∷ ps))) (λ rest. Contains-tail o (p ∷ ps) q rest) g
    by_case Equal is later g = ⊎_elim (λ same. subst (Contains (p ∷ ps)) (sym (octets_exact o p is) ∙ same) (Contains-head p ps)) (λ there. there) g
    by_case Greater is later g =
        ⊎_elim (λ same. Contains-tail p (put_in_order o ps) q (later (inl same))) (λ there. further later (Contains-cases p ps q there)) g

put-had : (o : List ℕ) (ps : List (List ℕ)) (q : List ℕ) → Contains (put_in_order o ps) q → (o ≡ q) ⊎ Contains ps q
put-had o [] q c = Contains-cases o [] q c
put-had o (p ∷ ps) q c = by_case (octets_cmp o p) (put-had o ps q) c
  where
    by_case : (r : Ordering) → (Contains (put_in_order o ps) q → (o ≡ q) ⊎ Contains ps q)
        → Contains (by_order r (o ∷ p ∷ ps) (p ∷ ps) (p ∷ put_in_order o ps)) q
        → (o ≡ q) ⊎ Contains (p ∷ ps) q
    by_case Less later g = Contains-cases o (p ∷ ps) q g
    by_case Equal later g = inr g
    by_case Greater later g =
        ⊎_elim (λ same. inr (subst (Contains (p ∷ ps)) same (Contains-head p ps)))
        (λ there. ⊎_elim (λ same. inl same) (λ rest. inr (Contains-tail p ps q rest)) (later there)) (Contains-cases p (put_in_order o ps) q g)

-- ---- the list in order

-- it ascends
pub ascending-rises : (os : List (List ℕ)) → Rises (in_ascending_order os)
unfolding IsStrictlySortedBy
ascending-rises [] = tt
ascending-rises (o ∷ os) = put-rises o (in_ascending_order os) (ascending-rises os)

-- it has what was given
pub ascending-has : (os : List (List ℕ)) (q : List ℕ) → Contains os q → Contains (in_ascending_order os) q
ascending-has [] q c = c
ascending-has (o ∷ os) q c = put-has o (in_ascending_order os) q (⊎_elim (λ is. inl is) (λ later. inr (ascending-has os q later)) (Contains-cases o os q c))

-- and nothing else
pub ascending-had : (os : List (List ℕ)) (q : List ℕ) → Contains (in_ascending_order os) q → Contains os q
ascending-had [] q c = c
ascending-had (o ∷ os) q c =
    ⊎_elim (λ is. subst (Contains (o ∷ os)) is (Contains-head o os)) (λ later. Contains-tail o os q (ascending-had os q later)) (put-had o (in_ascending_order os) q c)

-- a list that ascends and has the same octets is that list
pub ascending-only : (os once : List (List ℕ)) → Rises once → Within once os → Within os once → once ≡ in_ascending_order os
ascending-only os once rises within all =
    one_order once (in_ascending_order os) rises (ascending-rises os) (λ q c. ascending-has os q (within q c)) (λ q c. all q (ascending-had os q c))

-- octets that ascend keep their order
pub ascending-kept : (os : List (List ℕ)) → Rises os → in_ascending_order os ≡ os
ascending-kept os rises = sym (ascending-only os os rises (λ q c. c) (λ q c. c))

-- what passes a test keeps the order
pub ascending-filter : (p : List ℕ → Bool) (os : List (List ℕ)) → in_ascending_order (filter p os) ≡ filter p (in_ascending_order os)
ascending-filter p os =
    sym
    (ascending-only (filter p os) (filter p (in_ascending_order os)) (IsStrictlySortedBy-filter octets_cmp p (in_ascending_order os) (ascending-rises os))
    (λ q c. let found = filter-Contains p (in_ascending_order os) q c in Contains-filter p os q (ascending-had os q found.0) found.1)
    (λ q c. let found = filter-Contains p os q c in Contains-filter p (in_ascending_order os) q (ascending-has os q found.0) found.1))

-- one more at the end is put at its place
pub ascending-push : (os : List (List ℕ)) (o : List ℕ) → in_ascending_order (os ++ o ∷ []) ≡ put_in_order o (in_ascending_order os)
ascending-push os o =
    sym
    (ascending-only (os ++ o ∷ []) (put_in_order o (in_ascending_order os)) (put-rises o (in_ascending_order os) (ascending-rises os))
    (λ q c.
    ⊎_elim
    (λ is. subst (Contains (os ++ o ∷ [])) is (Contains-push os o))
    (λ old. Contains-append_left os (o ∷ []) q (ascending-had os q old))
    (put-had o (in_ascending_order os) q c))
    (λ q c. put-has o (in_ascending_order os) q (⊎_elim (λ old. inr (ascending-has os q old)) (λ is. inl is) (Contains-push_cases os o q c))))

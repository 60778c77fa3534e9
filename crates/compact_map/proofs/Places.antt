-- Where a query is among entries: what a search from the first one on has found so far, and what it
-- ends at.
use Rattle.std.proofs.Common.{◌≡◌, ℕ, zero, suc, ◌+◌, ◌≤◌, ◌<◌, List, [], ◌∷◌, ◌++◌, ◌≢◌, length, get_or, refl, sym, ap, ◌∙◌, subst, arith, Ok, Err}
use Rattle.std.specs.declared.cmp.Ordering.{Ordering}
use Rattle.std.specs.declared.cmp.Ordering.TheVariants.{Less, Equal, Greater}
use Rattle.std.specs.Cmp.{IsTotalOrder}
use Rattle.std.specs.List.{AllByRecursion}
use Rattle.std.specs.List.Sorted.{IsStrictlySortedBy}
use Rattle.std.specs.Map.{keys_of}
use Rattle.std.specs.Ordering.{match_ordering, ordering_reverse}
use Rattle.std_collections.specs.Layout.BTreeMap.{seek, one_further}
use Rattle.std_collections.proofs.Seek.{AboveFirst, AnswersAt}
use Rattle.compact_map.specs.MapEntries.{IsOrdered}

module _ {K X : Type 0} (compare : K → Ordering) where
  above_suc : (es : List (K × X)) (i : ℕ) (d : K × X) → i < length es → AboveFirst compare es i → compare (get_or es i d).0 ≡ Greater
      → AboveFirst compare es (suc i)
  above_suc [] i d l a b = absurd (omega arith)
  above_suc (e ∷ es) zero d l a b = (b, tt)
  above_suc (e ∷ es) (suc i) d l a b = (a.0, above_suc es i d (omega arith) a.1 b)

  -- the query is above one more key
  pub above_next : (es : List (K × X)) (i : ℕ) (d : K × X) → i < length es → AboveFirst compare es i → Greater ≡ compare (get_or es i d).0
      → AboveFirst compare es (i + 1)
  above_next es i d l a b = subst (AboveFirst compare es) {x = suc i} (omega arith) (above_suc es i d l a (sym b))

  -- what the query answers at a key
  answers_at : (es : List (K × X)) (i : ℕ) (d : K × X) (r : Ordering) → i < length es → compare (get_or es i d).0 ≡ r → AnswersAt compare es i r
  answers_at [] i d r l b = absurd (omega arith)
  answers_at (e ∷ es) zero d r l b = b
  answers_at (e ∷ es) (suc i) d r l b = answers_at es i d r (omega arith) b

  -- and past the last one
  answers_past : (es : List (K × X)) (i : ℕ) (r : Ordering) → length es ≤ i → AnswersAt compare es i r
  answers_past [] i r l = tt
  answers_past (e ∷ es) zero r l = absurd (omega arith)
  answers_past (e ∷ es) (suc i) r l = answers_past es i r (omega arith)

  step : (e : K × X) (es : List (K × X)) (r : Ordering) → compare e.0 ≡ r
      → seek compare (e ∷ es) ≡ match_ordering r (Err 0) (Ok 0) (one_further (seek compare es))
  step e es r h = ap (λ o. match_ordering o (Err 0) (Ok 0) (one_further (seek compare es))) h

  -- what a search comes to where it ends
  seek_found : (es : List (K × X)) (i : ℕ) → i < length es → AboveFirst compare es i → AnswersAt compare es i Equal → seek compare es ≡ Ok i
  seek_found [] i l a b = absurd (omega arith)
  seek_found (e ∷ es) zero l a b = step e es Equal b
  seek_found (e ∷ es) (suc i) l a b = step e es Greater a.0 ∙ ap one_further (seek_found es i (omega arith) a.1 b)

  seek_missed : (es : List (K × X)) (i : ℕ) → AboveFirst compare es i → AnswersAt compare es i Less → seek compare es ≡ Err i
  seek_missed [] zero a b = refl
  seek_missed [] (suc i) a b = absurd a
  seek_missed (e ∷ es) zero a b = step e es Less b
  seek_missed (e ∷ es) (suc i) a b = step e es Greater a.0 ∙ ap one_further (seek_missed es i a.1 b)

  -- a search that has passed the smaller keys ends at an equal one
  pub ends_at : (es : List (K × X)) (i : ℕ) (d : K × X) → i < length es → AboveFirst compare es i → Equal ≡ compare (get_or es i d).0
      → Ok i ≡ seek compare es
  ends_at es i d l a b = sym (seek_found es i l a (answers_at es i d Equal l (sym b)))

  -- or before a greater one
  pub ends_before : (es : List (K × X)) (i : ℕ) (d : K × X) → i < length es → AboveFirst compare es i → Less ≡ compare (get_or es i d).0
      → Err i ≡ seek compare es
  ends_before es i d l a b = sym (seek_missed es i a (answers_at es i d Less l (sym b)))

  -- or past the last one
  pub ends_past : (es : List (K × X)) (i : ℕ) → length es ≤ i → AboveFirst compare es i → Err i ≡ seek compare es
  ends_past es i l a = sym (seek_missed es i a (answers_past es i Less l))

  -- a search of all but the last is the whole one, where the query is below the last
  pub seek_rest : (es : List (K × X)) (l : K × X) → Less ≡ compare l.0 → seek compare es ≡ seek compare (es ++ l ∷ [])
  seek_rest [] l h = sym (step l [] Less (sym h))
  seek_rest (e ∷ es) l h = ap (λ r. match_ordering (compare e.0) (Err 0) (Ok 0) (one_further r)) (seek_rest es l h)

  -- a query above all but the last ends there, or past it
  ends_there : (es : List (K × X)) (l : K × X) → AllByRecursion (λ e. compare e.0 ≡ Greater) es → compare l.0 ≡ Equal → seek compare (es ++ l ∷ []) ≡ Ok (length es)
  ends_there [] l a h = step l [] Equal h
  ends_there (e ∷ es) l a h = step e (es ++ l ∷ []) Greater a.0 ∙ ap one_further (ends_there es l a.1 h)

  passes_it : (es : List (K × X)) (l : K × X) → AllByRecursion (λ e. compare e.0 ≡ Greater) es → compare l.0 ≡ Greater → seek compare (es ++ l ∷ []) ≡ Err (suc (length es))
  passes_it [] l a h = step l [] Greater h
  passes_it (e ∷ es) l a h = step e (es ++ l ∷ []) Greater a.0 ∙ ap one_further (passes_it es l a.1 h)

module _ {K X : Type 0} {cmp : K → K → Ordering} (o : IsTotalOrder cmp) (k : K) (l : K × X) where
  -- what is not below the last of ascending entries is above each other one
  above : (e : K × X) (r : Ordering) → cmp e.0 l.0 ≡ Less → cmp k l.0 ≡ r → r ≢ Less → cmp k e.0 ≡ Greater
  above e Less b h other = absurd (other refl)
  above e Equal b h other = o.congr k l.0 e.0 h ∙ o.antisymm l.0 e.0 ∙ ap ordering_reverse b
  above e Greater b h other =
      let under : cmp l.0 k ≡ Less = o.antisymm l.0 k ∙ ap ordering_reverse h in
      o.antisymm k e.0 ∙ ap ordering_reverse (o.trans e.0 l.0 k b under)

  last_of : (P : K → Type 0) (es : List (K × X)) → AllByRecursion P (keys_of (es ++ l ∷ [])) → P l.0
  last_of P [] a = a.0
  last_of P (e ∷ es) a = last_of P es a.1

  above_all : (es : List (K × X)) (r : Ordering) → IsOrdered cmp (es ++ l ∷ []) → cmp k l.0 ≡ r → r ≢ Less → AllByRecursion (λ e. cmp k e.0 ≡ Greater) es
  unfolding IsStrictlySortedBy
  above_all [] r s h other = tt
  above_all (e ∷ es) r s h other = (above e r (last_of (λ q. cmp e.0 q ≡ Less) es s.0) h other, above_all es r s.1 h other)

  -- a search that asks the last of ascending entries first
  pub ends_at_last : (es : List (K × X)) → IsOrdered cmp (es ++ l ∷ []) → Equal ≡ cmp k l.0 → Ok (length es) ≡ seek (cmp k) (es ++ l ∷ [])
  ends_at_last es s h = sym (ends_there (cmp k) es l (above_all es Equal s (sym h) (λ e. absurd (cc (e)))) (sym h))

  pub ends_past_last : (es : List (K × X)) → IsOrdered cmp (es ++ l ∷ []) → Greater ≡ cmp k l.0 → Err (length es + 1) ≡ seek (cmp k) (es ++ l ∷ [])
  ends_past_last es s h =
      let one_more : length es + 1 ≡ suc (length es) = omega arith in
      ap Err one_more ∙ sym (passes_it (cmp k) es l (above_all es Greater s (sym h) (λ e. absurd (cc (e)))) (sym h))

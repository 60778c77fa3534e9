-- Entries whose keys ascend: none, the first few, and an insertion before the first.
use Rattle.std.proofs.Common.{◌≡◌, ℕ, zero, suc, ◌+◌, ◌-◌, ◌≤◌, ◌<◌, List, [], ◌∷◌, ◌++◌, length, get_or, refl, sym, ap, ◌∙◌, subst, append_assoc, arith}
use Rattle.std.specs.declared.cmp.Ordering.{Ordering}
use Rattle.std.specs.declared.cmp.Ordering.TheVariants.{Less}
use Rattle.std.specs.Ordering.{match_ordering}
use Rattle.std.specs.Cmp.{IsTotalOrder}
use Rattle.std.specs.List.Sorted.{IsStrictlySortedBy}
use Rattle.std.specs.Map.{keys_of}
use Rattle.std.specs.BTreeMap.{insert_entry}
use Rattle.std_collections.proofs.Pairwise.{All-map}
use Rattle.compact_map.specs.MapEntries.{IsOrdered}

-- no entries are in order
pub none_ordered : {K X : Type 0} (cmp : K → K → Ordering) (es : List (K × X)) → es ≡ [] → IsOrdered cmp es
unfolding IsStrictlySortedBy
none_ordered cmp [] e = tt
none_ordered cmp (x ∷ es) e = absurd (omega (arith, ap length e))

module _ {K X : Type 0} (cmp : K → K → Ordering) where
  -- the last of entries in order are in order
  pub last_ordered : (es fs : List (K × X)) → IsOrdered cmp (es ++ fs) → IsOrdered cmp fs
  unfolding IsStrictlySortedBy
  last_ordered [] fs s = s
  last_ordered (e ∷ es) fs s = last_ordered es fs s.1

  -- an entry below all others goes before them
  pub insert_first : (e : K × X) (es : List (K × X)) → IsOrdered cmp (e ∷ es) → insert_entry cmp es e.0 e.1 ≡ e ∷ es
  unfolding IsStrictlySortedBy
  insert_first e [] s = refl
  insert_first e (f ∷ es) s = ap (λ o. match_ordering o (e ∷ f ∷ es) ((f.0, e.1) ∷ es) (f ∷ insert_entry cmp es e.0 e.1)) s.0.0

  -- an entry that is moved from the end of some entries to the front of others leaves all of them
  -- in order
  pub moved_first : (e : K × X) (es rest fs gs all : List (K × X)) → es ≡ rest ++ e ∷ [] → gs ≡ insert_entry cmp fs e.0 e.1
      → es ++ fs ≡ all → IsOrdered cmp all → rest ++ gs ≡ all
  moved_first e es rest fs gs all last put whole s =
      let parts : rest ++ e ∷ fs ≡ all = sym (append_assoc rest (e ∷ []) fs) ∙ ap (λ l. l ++ fs) (sym last) ∙ whole in
      ap (λ l. rest ++ l) (put ∙ insert_first e fs (last_ordered rest (e ∷ fs) (subst (IsOrdered cmp) (sym parts) s))) ∙ parts

  -- e is below the first of these, if they are to be looked at
  abbrev IsBelowFirst : K × X → List (K × X) → ℕ → Type 0
  IsBelowFirst e es zero = Unit {0}
  IsBelowFirst e [] (suc n) = Unit {0}
  IsBelowFirst e (f ∷ es) (suc n) = cmp e.0 f.0 ≡ Less

  -- the keys of the first n entries ascend
  abbrev pub AscendTo : List (K × X) → ℕ → Type 0
  AscendTo es zero = Unit {0}
  AscendTo [] (suc n) = Unit {0}
  AscendTo (e ∷ es) (suc n) = IsBelowFirst e es n × AscendTo es n

  -- those of the first one do
  pub ascend_one : (es : List (K × X)) → AscendTo es 1
  ascend_one [] = tt
  ascend_one (e ∷ es) = (tt, tt)

  ascend_suc : (es : List (K × X)) (i : ℕ) (d b : K × X) → suc i < length es → AscendTo es (suc i)
      → cmp (get_or es i d).0 (get_or es (suc i) b).0 ≡ Less → AscendTo es (suc (suc i))
  ascend_suc [] i d b l a h = absurd (omega arith)
  ascend_suc (e ∷ []) i d b l a h = absurd (omega arith)
  ascend_suc (e ∷ f ∷ es) zero d b l a h = (h, (tt, tt))
  ascend_suc (e ∷ f ∷ es) (suc i) d b l a h = (a.0, ascend_suc (f ∷ es) i d b (omega arith) a.1 h)

  -- one more, which is above the last
  pub ascend_next : (es : List (K × X)) (n : ℕ) (d b : K × X) → 1 ≤ n → n < length es → AscendTo es n
      → Less ≡ cmp (get_or es (n - 1) d).0 (get_or es n b).0 → AscendTo es (n + 1)
  ascend_next es zero d b p l a h = absurd (omega arith)
  ascend_next es (suc i) d b p l a h =
      let before : suc i - 1 ≡ i = omega arith in
      subst (AscendTo es) {x = suc (suc i)} (omega arith)
      (ascend_suc es i d b l a (subst (λ j. cmp (get_or es j d).0 (get_or es (suc i) b).0 ≡ Less) before (sym h)))

  -- all of them
  pub ascend_all : IsTotalOrder cmp → (es : List (K × X)) (n : ℕ) → length es ≤ n → AscendTo es n → IsOrdered cmp es
  unfolding IsStrictlySortedBy
  ascend_all o [] n l a = tt
  ascend_all o (e ∷ es) zero l a = absurd (omega arith)
  ascend_all o (e ∷ []) (suc n) l a = (tt, tt)
  ascend_all o (e ∷ f ∷ es) (suc zero) l a = absurd (omega arith)
  ascend_all o (e ∷ f ∷ es) (suc (suc n)) l a =
      let rest = ascend_all o (f ∷ es) (suc n) (omega arith) a.1 in
      ((a.0, All-map (λ y h. o.trans e.0 f.0 y a.0 h) (keys_of es) rest.0), rest)

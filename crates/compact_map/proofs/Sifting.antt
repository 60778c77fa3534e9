-- What the loop of `retain` keeps: the entries that are done, those to come, and what is known of
-- the closure.
use Rattle.std.proofs.Common.{◌≡◌, ℕ, zero, suc, ◌+◌, ◌≤◌, ◌<◌, Bool, true, false, List, [], ◌∷◌, ◌++◌, length, get_or, set}
use Rattle.std.proofs.Common.{refl, sym, ap, ◌∙◌, subst, append_assoc, length-append, arith}
use Rattle.std.specs.declared.cmp.Ordering.{Ordering}
use Rattle.std.specs.declared.cmp.Ordering.TheVariants.{Less}
use Rattle.std.specs.List.{remove}
use Rattle.std.specs.Map.Calls.{CallableOnEachPair, RetainsPairs}
use Rattle.std_collections.proofs.Pairwise.{Pairwise-retained, from_sorted, to_sorted}
use Rattle.compact_map.specs.MapEntries.{IsOrdered}

module _ {X : Type 0} where
  -- the first of those to come is at the next place
  next : (done todo : List X) (i : ℕ) (e : X) → i ≡ length done → i < length (done ++ todo) → e ≡ get_or (done ++ todo) i e
      → (tail : List X) × (todo ≡ e ∷ tail)
  next [] [] i e p l is = absurd (omega arith)
  next [] (x ∷ todo) zero e p l is = (todo, ap (λ x. x ∷ todo) (sym is))
  next [] (x ∷ todo) (suc i) e p l is = absurd (omega (arith, p))
  next (d ∷ done) todo zero e p l is = absurd (omega (arith, p))
  next (d ∷ done) todo (suc i) e p l is = next done todo i e (omega (arith, p)) (omega arith) is

  -- it is replaced
  set_next : (done : List X) (e x : X) (tail : List X) → set (done ++ e ∷ tail) (length done) x ≡ done ++ x ∷ tail
  set_next [] e x tail = refl
  set_next (d ∷ done) e x tail = ap (λ l. d ∷ l) (set_next done e x tail)

  -- and it is taken out
  remove_next : (done : List X) (x : X) (tail : List X) → remove (done ++ x ∷ tail) (length done) ≡ done ++ tail
  remove_next [] x tail = refl
  remove_next (d ∷ done) x tail = ap (λ l. d ∷ l) (remove_next done x tail)

  -- none is to come, where the place is past the last
  none_to_come : (done todo : List X) → length (done ++ todo) ≤ length done → todo ≡ []
  none_to_come done [] l = refl
  none_to_come done (x ∷ todo) l = absurd (omega (arith, length-append done (x ∷ todo)))

module _ {F K X : Type 0} (T : F → K → X → Bool → X → F → Type 0) (Q : F → K → X → Type 0) (f₀ : F) (es₀ : List (K × X)) where
  -- the entries at which the closure was called and that it kept, with those to come, are es, and
  -- the next one is at i
  pub record Sifting (f : F) (es : List (K × X)) (i : ℕ) : Type 0 where
    pub done : List (K × X)
    pub todo : List (K × X)
    pub parts : es ≡ done ++ todo
    pub place : i ≡ length done
    pub ready : CallableOnEachPair T Q f todo
    pub rest : (kept : List (K × X)) → RetainsPairs T f todo kept → RetainsPairs T f₀ es₀ (done ++ kept)

  module _ {f : F} {es : List (K × X)} {i : ℕ} (s : Sifting f es i) where
    -- at the end
    pub ended : length es ≤ i → RetainsPairs T f₀ es₀ es
    ended l =
        let counted : length (s.done ++ s.todo) ≤ length s.done = omega (arith, ap length s.parts, s.place) in
        let none = none_to_come s.done s.todo counted in
        subst (RetainsPairs T f₀ es₀) (ap (λ l. s.done ++ l) (sym none) ∙ sym s.parts)
        (s.rest [] (subst (λ l. RetainsPairs T f l []) (sym none) refl))

    -- e is at the next place
    module _ (e : K × X) (l : i < length es) (is : e ≡ get_or es i e) where
      here : (tail : List (K × X)) × (s.todo ≡ e ∷ tail)
      here = next s.done s.todo i e s.place (subst (λ es. i < length es) s.parts l) (subst (λ es. e ≡ get_or es i e) s.parts is)

      -- the closure may be called at it
      pub asked : Q f e.0 e.1
      asked = s.ready.at [] here.0 f e.0 e.1 here.1 refl

      module _ (n : K × X) (same_key : n.0 ≡ e.0) (f' : F) where
        ready_next : (b : Bool) → T f e.0 e.1 b n.1 f' → CallableOnEachPair T Q f' here.0
        ready_next b t = record { at = λ before after u k v is r. s.ready.at (e ∷ before) after u k v (here.1 ∙ ap (λ m. e ∷ m) is) (f', (b, n.1, t), r) }

        written : set es i n ≡ s.done ++ n ∷ here.0
        written =
            ap (λ es. set es i n) (s.parts ∙ ap (λ l. s.done ++ l) here.1) ∙ ap (λ i. set (s.done ++ e ∷ here.0) i n) s.place
            ∙ set_next s.done e n here.0

        with_old_key : (kept : List (K × X)) → (e.0, n.1) ∷ kept ≡ n ∷ kept
        with_old_key kept = ap (λ k. (k, n.1) ∷ kept) (sym same_key)

        -- it was kept
        pub kept_next : T f e.0 e.1 true n.1 f' → Sifting f' (set es i n) (i + 1)
        kept_next t = record {
          done = s.done ++ n ∷ [];
          todo = here.0;
          parts = written ∙ sym (append_assoc s.done (n ∷ []) here.0);
          place = omega (arith, s.place, length-append s.done (n ∷ []));
          ready = ready_next true t;
          rest = λ kept r. subst (RetainsPairs T f₀ es₀) (sym (append_assoc s.done (n ∷ []) kept))
              (s.rest (n ∷ kept) (subst (λ l. RetainsPairs T f l (n ∷ kept)) (sym here.1) (true, n.1, f', kept, t, r, sym (with_old_key kept))));
        }

        -- it was not, and is taken out
        pub dropped_next : T f e.0 e.1 false n.1 f' → Sifting f' (remove (set es i n) i) i
        dropped_next t = record {
          done = s.done;
          todo = here.0;
          parts = ap (λ es. remove es i) written ∙ ap (remove (s.done ++ n ∷ here.0)) s.place ∙ remove_next s.done n here.0;
          place = s.place;
          ready = ready_next false t;
          rest = λ kept r. s.rest kept (subst (λ l. RetainsPairs T f l kept) (sym here.1) (false, n.1, f', kept, t, r, refl));
        }

-- at the beginning all are to come
pub begun : {F K X : Type 0} (T : F → K → X → Bool → X → F → Type 0) (Q : F → K → X → Type 0) (f : F) (es : List (K × X)) → CallableOnEachPair T Q f es
    → Sifting T Q f es f es 0
begun T Q f es ready = record { done = []; todo = es; parts = refl; place = refl; ready = ready; rest = λ kept r. r }

-- entries in order stay so, where some are kept
pub kept_ordered : {F K X : Type 0} (T : F → K → X → Bool → X → F → Type 0) (cmp : K → K → Ordering) (f : F) (es kept : List (K × X))
    → RetainsPairs T f es kept → IsOrdered cmp es → IsOrdered cmp kept
kept_ordered T cmp f es kept r s = to_sorted cmp _ (Pairwise-retained (λ x y. cmp x y ≡ Less) T f es kept r (from_sorted cmp _ s))

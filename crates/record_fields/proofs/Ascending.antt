-- Lists whose keys ascend, and the maps of their items.
use Rattle.std.proofs.Common.{◌≡◌, Bool, true, false, T, cond, List, [], ◌∷◌, ◌++◌, length, Some, None, refl, sym, ap, subst, ◌∙◌, append_assoc, append-nil}
use Rattle.std.proofs.Common.{arith}
use Rattle.std.specs.Prelude.{◌&&◌, IfSome}
use Rattle.std.specs.List.{AllByRecursion}
use Rattle.std.specs.Ordering.{eq_by_cmp, is_lt, is_eq, ordering_reverse}
use Rattle.std.specs.declared.cmp.Ordering.{Ordering}
use Rattle.std.specs.declared.cmp.Ordering.TheVariants.{Less, Equal, Greater}
use Rattle.std.specs.Cmp.{IsTotalOrder, tied_itself}
use Rattle.std.specs.FinMap.{FinMap, IsAntisymmetric, empty, insert, entries, entries_sorted, put, find, is_sorted, same_entries_map, entries-insert}
use Rattle.std.specs.FinMap.{len-entries, len-empty}
use Rattle.std.specs.FinMap.Entries.{below_all}
use Rattle.cds_stamps.specs.Keyed.{ties_are_equal}
use Rattle.record_fields.specs.Added.{add_all}

-- two tests that hold, as one
pub both : (a b : Bool) → T a → T b → T (a && b)
both true b p q = q
both false b p q = absurd p

-- the first of two tests
pub first_of : (a b : Bool) → T (a && b) → T a
first_of true b p = tt
first_of false b p = absurd p

-- the second of two tests
pub second_of : (a b : Bool) → T (a && b) → T b
second_of true b p = p
second_of false b p = absurd p

-- what the test for less means
pub less : (r : Ordering) → T (is_lt r) → r ≡ Less
less Less p = refl
less Equal p = absurd p
less Greater p = absurd p

no_items : {X : Type 0} (es : List X) → length es ≡ 0 → es ≡ []
no_items [] e = refl
no_items (x ∷ es) e = absurd (omega arith)

module _ {K X : Type 0} {R : K → K → Ordering} (total : IsTotalOrder R) where
  -- what is below all items of a list is so for a lesser key
  pub below_less : (j k : K) (es : List (K × X)) → R j k ≡ Less → T (below_all R k es) → T (below_all R j es)
  below_less j k [] p h = tt
  below_less j k (e ∷ es) p h =
      both _ _ (subst (λ r. T (is_lt r)) (sym (total.trans j k e.0 p (less _ (first_of _ _ h)))) tt) (below_less j k es p (second_of _ _ h))

  below_later : (k : K) (ds : List (K × X)) (e : K × X) (es : List (K × X)) → T (below_all R k (ds ++ e ∷ es)) → R k e.0 ≡ Less
  below_later k [] e es h = less _ (first_of _ _ h)
  below_later k (d ∷ ds) e es h = below_later k ds e es (second_of _ _ h)

  -- what is above all is put last
  put_last : (ds : List (K × X)) (e : K × X) (es : List (K × X)) → T (is_sorted R (ds ++ e ∷ es)) → put R e.0 e.1 ds ≡ ds ++ e ∷ []
  put_last [] e es h = refl
  put_last (d ∷ ds) e es h =
      let above : R e.0 d.0 ≡ Greater = total.antisymm e.0 d.0 ∙ ap ordering_reverse (below_later d.0 ds e es (first_of _ _ h)) in
      rw above (ap (λ (fs : List (K × X)). d ∷ fs) (put_last ds e es (second_of _ _ h)))

  added_last : (m : FinMap R X) (es : List (K × X)) → T (is_sorted R (entries m ++ es)) → entries (add_all m es) ≡ entries m ++ es
  added_last m [] h = sym (append-nil (entries m))
  added_last m (e ∷ es) h =
      let one : entries (insert m e.0 e.1) ++ es ≡ entries m ++ e ∷ es =
      ap (λ (ds : List (K × X)). ds ++ es) (entries-insert total m e.0 e.1 ∙ put_last (entries m) e es h) ∙ append_assoc (entries m) (e ∷ []) es in
      added_last (insert m e.0 e.1) es (subst (λ ds. T (is_sorted R ds)) (sym one) h) ∙ one

  -- sorted items that are added to an empty map are its entries
  pub entries_added : (es : List (K × X)) → T (is_sorted R es) → entries (add_all (empty {R = R}) es) ≡ es
  entries_added es h =
      let none : entries (empty {X = X} {R = R}) ≡ [] = no_items _ (sym (len-entries empty) ∙ len-empty R X) in
      added_last empty es (subst (λ ds. T (is_sorted R (ds ++ es))) (sym none) h) ∙ ap (λ (ds : List (K × X)). ds ++ es) none

  -- a map is made of its entries
  pub added_entries : (m : FinMap R X) → add_all empty (entries m) ≡ m
  added_entries m = same_entries_map (add_all empty (entries m)) m (entries_added (entries m) (entries_sorted m))

  -- the same, for any list that is the map's entries
  pub entries_make : (m none : FinMap R X) (items : List (K × X)) → none ≡ empty → items ≡ entries m → add_all none items ≡ m
  entries_make m none items e f = (λ i. add_all (e i) (f i)) ∙ added_entries m

  module _ (exact : IsAntisymmetric R) where
    not_found : (q : K) (es : List (K × X)) → T (below_all R q es) → find R q es ≡ None
    not_found q [] p = refl
    not_found q (e ∷ es) p = rw (less (R q e.0) (first_of _ _ p)) (not_found q es (second_of _ _ p))

    -- where what is found is valid, each item is
    pub each_entry : (V : X → Type 0) (es : List (K × X)) → T (is_sorted R es) → ((q : K) → IfSome (find R q es) V) → AllByRecursion (λ e. V e.1) es
    each_entry V [] p h = tt
    each_entry V (e ∷ es) p h = (
      subst (λ b. IfSome (cond b (Some e.1) (find R e.0 es)) V) (ap is_eq (tied_itself total e.0)) (h e.0),
      each_entry V es (second_of _ _ p) (λ q. at q (eq_by_cmp R q e.0) refl),
    )
      where
        at : (q : K) (b : Bool) → eq_by_cmp R q e.0 ≡ b → IfSome (find R q es) V
        at q true same = subst (λ x. IfSome x V) (sym (not_found q es (subst (λ k. T (below_all R k es)) (sym (ties_are_equal exact q e.0 same)) (first_of _ _ p)))) tt
        at q false other = subst (λ b. IfSome (cond b (Some e.1) (find R q es)) V) other (h q)

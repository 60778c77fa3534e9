-- Maps whose values are told of those of another map.
use Rattle.std.proofs.Common.{◌≡◌, ℕ, T, List, [], ◌∷◌, ◌++◌, length, refl, sym, ap, ◌∙◌}
use Rattle.std.specs.Prelude.{map}
use Rattle.std.specs.declared.cmp.Ordering.{Ordering}
use Rattle.std.specs.Cmp.{IsTotalOrder}
use Rattle.std.specs.FinMap.{FinMap, IsAntisymmetric, empty, entries, entries_sorted, len, len-entries, from_entries, from_sorted, is_sorted, get-from_entries}
use Rattle.std.specs.FinMap.{get-from_sorted, entries-from_sorted, same_map, same_entries_map}
use Rattle.std.specs.FinMap.Entries.{below_all}
use Rattle.std.proofs.lemmas.List.{length-map}
use Rattle.record_fields.specs.Added.{add_all}
use Rattle.record_fields.specs.FieldOctets.{items_octets}
use Rattle.record_fields.specs.FieldRanges.{ItemsFit}
use Rattle.record_fields.proofs.Ascending.{both, first_of, second_of, entries_added}

module _ {K X Y : Type 0} {R : K → K → Ordering} (total : IsTotalOrder R) (exact : IsAntisymmetric R) (f : X → Y) where
  below_kept : (k : K) (es : List (K × X)) → T (below_all R k es) → T (below_all R k (map (λ e. (e.0, f e.1)) es))
  below_kept k [] p = tt
  below_kept k (e ∷ es) p = both _ _ (first_of _ _ p) (below_kept k es (second_of _ _ p))

  sorted_kept : (es : List (K × X)) → T (is_sorted R es) → T (is_sorted R (map (λ e. (e.0, f e.1)) es))
  sorted_kept [] p = tt
  sorted_kept (e ∷ es) p = both _ _ (below_kept e.0 es (first_of _ _ p)) (sorted_kept es (second_of _ _ p))

  -- such a map has these entries
  pub entries_mapped : (m : FinMap R X) → entries (from_entries {R = R} (map (λ e. (e.0, f e.1)) (entries m))) ≡ map (λ e. (e.0, f e.1)) (entries m)
  entries_mapped m =
      let es : List (K × Y) = map (λ e. (e.0, f e.1)) (entries m) in
      let t : T (is_sorted R es) = sorted_kept (entries m) (entries_sorted m) in
      ap entries (same_map total exact (from_entries {R = R} es) (from_sorted es) (λ q. get-from_entries total es q ∙ sym (get-from_sorted R es q t)))
      ∙ entries-from_sorted R es t

  -- and as many
  pub len_mapped : (m : FinMap R X) → len (from_entries {R = R} (map (λ e. (e.0, f e.1)) (entries m))) ≡ len m
  len_mapped m = len-entries _ ∙ ap length (entries_mapped m) ∙ length-map (entries m) (λ e. (e.0, f e.1)) ∙ sym (len-entries m)

  -- it is made by adding them one after another
  pub mapped_made : (m : FinMap R X) → add_all (empty {R = R}) (map (λ e. (e.0, f e.1)) (entries m)) ≡ from_entries (map (λ e. (e.0, f e.1)) (entries m))
  mapped_made m = same_entries_map _ _ (entries_added total _ (sorted_kept (entries m) (entries_sorted m)) ∙ sym (entries_mapped m))

  -- their octets
  pub items_mapped : (named : K → List ℕ) (said : Y → List ℕ) (es : List (K × X))
      → items_octets named said (map (λ e. (e.0, f e.1)) es) ≡ items_octets named (λ x. said (f x)) es
  unfolding items_octets
  items_mapped named said [] = refl
  items_mapped named said (e ∷ es) = ap (λ (o : List ℕ). (named e.0 ++ said (f e.1)) ++ o) (items_mapped named said es)

  -- each fits
  pub fits_mapped : (P : K → Type 0) (Q : Y → Type 0) (es : List (K × X)) → ItemsFit P (λ x. Q (f x)) es → ItemsFit P Q (map (λ e. (e.0, f e.1)) es)
  fits_mapped P Q [] h = tt
  fits_mapped P Q (e ∷ es) h = (h.0, fits_mapped P Q es h.1)

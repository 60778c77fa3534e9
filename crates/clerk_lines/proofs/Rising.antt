-- Values that ascend, and one more.
use Rattle.std.proofs.Common.{◌≡◌, ℕ, ◌+◌, ◌-◌, ◌<◌, ◌≤◌, true, List, [], ◌∷◌, ◌++◌, length, get_or, refl, sym, ap, ◌∙◌, inl, inr, arith, length-append}
use Rattle.std.specs.Prelude.{Option, Some, slice_get}
use Rattle.std.specs.Option.{option_map_or}
use Rattle.std.specs.Ordering.{is_lt}
use Rattle.std.specs.declared.cmp.Ordering.{Ordering}
use Rattle.std.specs.declared.cmp.Ordering.TheVariants.{Less, Equal, Greater}
use Rattle.std.specs.List.Sorted.{IsStrictlySortedBy}
use Rattle.std.proofs.lemmas.Bool.{cases_lt}
use Rattle.std.proofs.lemmas.Cmp.{nat_list_cmp_total}
use Rattle.std.proofs.lemmas.List.{get_or_append_left}
use Rattle.std.proofs.lemmas.Map.Keys.{Less-from_sorted, sorted_from_all_adjacent}
use Rattle.std.proofs.lemmas.Option.{slice_get-get_or}
use Rattle.std.proofs.Math.Seq.{get_or-append_seam}
use Rattle.cds_stamps.specs.Octets.{octets_cmp}
use Rattle.clerk_lines.specs.ShownEntries.{rises}

-- no values ascend
pub none_rise : IsStrictlySortedBy octets_cmp []
unfolding IsStrictlySortedBy
none_rise = tt

is_less : (o : Ordering) → is_lt o ≡ true → o ≡ Less
is_less Less h = refl
is_less Equal h = cc
is_less Greater h = cc

-- a value that is above the last of these is above it
above_last : (vs : List (List ℕ)) (v : List ℕ) (k : ℕ) → k + 1 ≡ length vs → rises vs v ≡ true → octets_cmp (get_or vs k v) v ≡ Less
above_last vs v k last up =
    let at : k ≡ length vs - 1 = omega arith in
    let there : slice_get vs (length vs - 1) ≡ Some (get_or vs k v) =
    ap (slice_get vs) (sym at) ∙ slice_get-get_or vs k v (omega arith) in
    let is : is_lt (octets_cmp (get_or vs k v) v) ≡ true =
    sym (ap (λ (o : Option (List ℕ)). option_map_or (λ w. is_lt (octets_cmp w v)) o true) there) ∙ up in
    is_less (octets_cmp (get_or vs k v) v) is

-- values that ascend, and one more that is above the last
pub rises_on : (vs : List (List ℕ)) (v : List ℕ) → IsStrictlySortedBy octets_cmp vs → rises vs v ≡ true → IsStrictlySortedBy octets_cmp (vs ++ v ∷ [])
rises_on vs v sorted up = sorted_from_all_adjacent nat_list_cmp_total (vs ++ v ∷ []) v adjacent
  where
    adjacent : (k : ℕ) → k + 1 < length (vs ++ v ∷ []) → octets_cmp (get_or (vs ++ v ∷ []) k v) (get_or (vs ++ v ∷ []) (k + 1) v) ≡ Less
    adjacent k within =
        let few : k + 1 ≤ length vs = omega (arith, within, length-append vs (v ∷ [])) in
        let first : get_or (vs ++ v ∷ []) k v ≡ get_or vs k v = get_or_append_left vs (v ∷ []) v k (omega arith) in
        elim (cases_lt (k + 1) (length vs)) [
          | inl before ↦ ap (λ (w : List ℕ). octets_cmp w (get_or (vs ++ v ∷ []) (k + 1) v)) first
              ∙ ap (octets_cmp (get_or vs k v)) (get_or_append_left vs (v ∷ []) v (k + 1) before)
              ∙ Less-from_sorted octets_cmp vs k (k + 1) v sorted (omega arith) before
          | inr after ↦ let last : k + 1 ≡ length vs = omega arith in
              ap (λ (w : List ℕ). octets_cmp w (get_or (vs ++ v ∷ []) (k + 1) v)) first
              ∙ ap (λ (n : ℕ). octets_cmp (get_or vs k v) (get_or (vs ++ v ∷ []) n v)) last
              ∙ ap (octets_cmp (get_or vs k v)) (get_or-append_seam vs v [] v)
              ∙ above_last vs v k last up
        ]

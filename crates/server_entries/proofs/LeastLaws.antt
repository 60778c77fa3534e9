-- The least of the objects, one by one.
use Rattle.std.proofs.Common.{◌≡◌, ℕ, ◌+◌, ◌<◌, Bool, true, false, cond, eqb, List, [], ◌∷◌, ◌++◌, map, length, get_or, take, Some}
use Rattle.std.proofs.Common.{refl, sym, ap, ◌∙◌}
use Rattle.std.specs.Prelude.{slice_get}
use Rattle.std.specs.declared.cmp.Ordering.{Ordering}
use Rattle.std.specs.declared.cmp.Ordering.TheVariants.{Less, Equal, Greater}
use Rattle.std.specs.FinMap.Entries.{by_order}
use Rattle.std.proofs.lemmas.List.{map_more, append-nil}
use Rattle.std.proofs.lemmas.List.Elements.{filter-append}
use Rattle.cds_stamps.specs.Octets.{octets_cmp}
use Rattle.cds_stamps.specs.Ascending.{put_in_order, in_ascending_order}
use Rattle.cds_stamps.proofs.AscendingLaws.{ascending-push}
use Rattle.server_entries.specs.Clients.{objects_in, least_object, lesser}

first_of_put : (v : List ℕ) (ws : List (List ℕ)) → slice_get (put_in_order v ws) 0 ≡ Some (lesser v (slice_get ws 0))
first_of_put v [] = refl
first_of_put v (w ∷ ws) = by_case (octets_cmp v w)
  where
    by_case : (o : Ordering) → slice_get (by_order o (v ∷ w ∷ ws) (w ∷ ws) (w ∷ put_in_order v ws)) 0 ≡ Some (by_order o v w w)
    by_case Less = refl
    by_case Equal = refl
    by_case Greater = refl

-- one more value after others: an object, or another one
least_push : (held : List (List ℕ)) (v : List ℕ)
    → least_object (held ++ v ∷ []) ≡ cond (eqb (length v) 16) (Some (lesser v (least_object held))) (least_object held)
least_push held v =
    ap (λ (vs : List (List ℕ)). slice_get (in_ascending_order vs) 0) (filter-append (λ (w : List ℕ). eqb (length w) 16) held (v ∷ [])) ∙ by_case (eqb (length v) 16)
  where
    by_case : (b : Bool) → slice_get (in_ascending_order (objects_in held ++ cond b (v ∷ []) [])) 0
        ≡ cond b (Some (lesser v (least_object held))) (least_object held)
    by_case true =
        ap (λ (vs : List (List ℕ)). slice_get vs 0) (ascending-push (objects_in held) v) ∙ first_of_put v (in_ascending_order (objects_in held))
    by_case false = ap (λ (vs : List (List ℕ)). slice_get (in_ascending_order vs) 0) (append-nil (objects_in held))

-- one more of the values that are seen through a function, as borrowed values are
pub least_more : {X : Type 0} (f : X → List ℕ) (held : List X) (i : ℕ) (x : X) → i < length held → x ≡ get_or held i x
    → least_object (map f (take (i + 1) held))
    ≡ cond (eqb (length (f x)) 16) (Some (lesser (f x) (least_object (map f (take i held))))) (least_object (map f (take i held)))
least_more {X} f held i x inside at =
    ap least_object (map_more f held i x inside ∙ ap (λ (y : X). map f (take i held) ++ f y ∷ []) (sym at))
    ∙ least_push (map f (take i held)) (f x)

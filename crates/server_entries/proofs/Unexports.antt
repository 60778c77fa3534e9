-- Where nothing goes.
use Rattle.std.proofs.Common.{◌≡◌, ℕ, ◌<◌, List, [], ◌∷◌, ◌++◌, map, length, None, refl, ap, arith}
use Rattle.std.specs.declared.cmp.Ordering.{Ordering}
use Rattle.std.specs.declared.cmp.Ordering.TheVariants.{Less, Equal, Greater}
use Rattle.std.specs.FinMap.Entries.{by_order}
use Rattle.std.proofs.lemmas.List.{length-append, length-map}
use Rattle.cds_stamps.specs.Octets.{octets_cmp}
use Rattle.attr_sets.specs.Values.{value_fault}
use Rattle.cds_stamps.specs.Ascending.{put_in_order, in_ascending_order}

-- 16 octets are a value
pub object_fits : (x : List ℕ) → length x ≡ 16 → value_fault x ≡ None
object_fits x sixteen = rw sixteen refl

put-some : (v : List ℕ) (ws : List (List ℕ)) → 0 < length (put_in_order v ws)
put-some v [] = omega arith
put-some v (w ∷ ws) = by_case (octets_cmp v w)
  where
    by_case : (o : Ordering) → 0 < length (by_order o (v ∷ w ∷ ws) (w ∷ ws) (w ∷ put_in_order v ws))
    by_case Less = omega arith
    by_case Equal = omega arith
    by_case Greater = omega arith

none_ascend : (vs : List (List ℕ)) → length (in_ascending_order vs) ≡ 0 → vs ≡ []
none_ascend [] none = refl
none_ascend (v ∷ vs) none = absurd (omega (arith, put-some v (in_ascending_order vs), none))

pub no_items : {X : Type 0} (xs : List X) → length xs ≡ 0 → xs ≡ []
no_items [] none = refl
no_items (x ∷ xs) none = absurd (omega arith)

-- no change: no value of either attribute goes
pub no_towers : {Z : Type 0} (f g : List ℕ → Z) (towers objects : List (List ℕ)) → map f (in_ascending_order towers) ++ map g (in_ascending_order objects) ≡ [] → towers ≡ []
no_towers f g towers objects none =
    none_ascend towers (omega (arith, ap length none, length-append (map f (in_ascending_order towers)) (map g (in_ascending_order objects)), length-map (in_ascending_order towers) f))

-- and the same of the objects
pub no_objects : {Z : Type 0} (f g : List ℕ → Z) (towers objects : List (List ℕ)) → map f (in_ascending_order towers) ++ map g (in_ascending_order objects) ≡ [] → objects ≡ []
no_objects f g towers objects none =
    none_ascend objects (omega (arith, ap length none, length-append (map f (in_ascending_order towers)) (map g (in_ascending_order objects)), length-map (in_ascending_order objects) g))

-- items that are seen as nothing are none
pub none_seen : {X : Type 0} (f : X → List ℕ) (xs : List X) (vs : List (List ℕ)) → map f xs ≡ in_ascending_order vs → vs ≡ [] → xs ≡ []
none_seen f xs vs seen none = no_items xs (omega (arith, ap length seen, length-map xs f, ap (λ (ws : List (List ℕ)). length (in_ascending_order ws)) none))

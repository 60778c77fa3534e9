-- The first fault of a full name's octets, found octet by octet as by their components.
use Rattle.std.proofs.Common.{◌≡◌, ℕ, ◌+◌, Bool, true, false, cond, List, [], ◌∷◌, length, Option, Some, None, refl, sym, ap, ◌∙◌, arith}
use Rattle.std.specs.Prelude.{not, ◌==◌, if◌then◌else◌}
use Rattle.std.specs.Option.{option_or}
use Rattle.std.specs.List.{slice_split, onto_first}
use Rattle.cds_stamps.specs.declared.names.NameFault.{NameFault}
use Rattle.cds_stamps.specs.declared.names.NameFault.TheVariants.{Empty, BadOctet, ComponentTooLong}
use Rattle.cds_stamps.specs.Names.{component_fault, is_name_octet}
use Rattle.cell_names.specs.FullNames.{slash, components_fault}

-- the first fault of octets from this place on, in a component that has n octets so far
abbrev pub walk_fault : (place n : ℕ) → List ℕ → Option NameFault
walk_fault place n [] = if n == 0 then Some (Empty place) else None
walk_fault place n (b ∷ bs) =
    if b == slash then (if n == 0 then Some (Empty place) else walk_fault (place + 1) 0 bs)
    else (if not (is_name_octet b) then Some (BadOctet place) else (if n == 254 then Some (ComponentTooLong place) else walk_fault (place + 1) (n + 1) bs))

-- the first fault of components of which the first has n octets in front of this place
abbrev begun_fault : (place n : ℕ) → List (List ℕ) → Option NameFault
begun_fault place n [] = None
begun_fault place n ([] ∷ cs) = if n == 0 then Some (Empty place) else components_fault (place + 1) cs
begun_fault place n ((b ∷ bs) ∷ cs) = option_or (component_fault place (n + 1) (b ∷ bs)) (components_fault (place + length (b ∷ bs) + 1) cs)

begun_fault-new : (place : ℕ) (cs : List (List ℕ)) → begun_fault place 0 cs ≡ components_fault place cs
begun_fault-new place [] = refl
begun_fault-new place ([] ∷ cs) = refl
begun_fault-new place ((b ∷ bs) ∷ cs) = refl

option_or-octet : (octet full : Bool) (x y : NameFault) (rest others : Option NameFault)
    → option_or (if not octet then Some x else (if full then Some y else rest)) others
    ≡ (if not octet then Some x else (if full then Some y else option_or rest others))
option_or-octet true true x y rest others = refl
option_or-octet true false x y rest others = refl
option_or-octet false full x y rest others = refl

next_full : (n : ℕ) → (n + 1 == 255) ≡ (n == 254)
next_full n = grind arith

next_begun : (n : ℕ) → (n + 1 == 0) ≡ false
next_begun n = grind arith

-- one octet more in front of the first component
begun_fault-onto_first : (place n b : ℕ) (cs : List (List ℕ))
    → begun_fault place n (onto_first b cs)
    ≡ (if not (is_name_octet b) then Some (BadOctet place) else (if n == 254 then Some (ComponentTooLong place) else begun_fault (place + 1) (n + 1) cs))
begun_fault-onto_first place n b [] =
    rw (next_full n) (option_or-octet (is_name_octet b) (n == 254) (BadOctet place) (ComponentTooLong place) None None)
begun_fault-onto_first place n b ([] ∷ cs) =
    rw (next_full n, next_begun n) (option_or-octet (is_name_octet b) (n == 254) (BadOctet place) (ComponentTooLong place) None (components_fault
    (place + 1 + 1) cs))
begun_fault-onto_first place n b ((c ∷ bs) ∷ cs) =
    let further : place + length (b ∷ c ∷ bs) + 1 ≡ place + 1 + length (c ∷ bs) + 1 = omega arith in
    rw (next_full n, further) (option_or-octet (is_name_octet b) (n == 254) (BadOctet place) (ComponentTooLong place) (component_fault
    (place + 1) (n + 1 + 1) (c ∷ bs)) (components_fault (place + 1 + length (c ∷ bs) + 1) cs))

-- octet by octet and by components the same fault is first
pub walk_fault-begun : (place n : ℕ) (bs : List ℕ) → walk_fault place n bs ≡ begun_fault place n (slice_split (λ b. b == slash) bs)
walk_fault-begun place n [] = refl
walk_fault-begun place n (b ∷ bs) = by_slash (b == slash) (walk_fault-begun (place + 1) 0 bs) (walk_fault-begun (place + 1) (n + 1) bs)
  where
    by_slash : (t : Bool) → walk_fault (place + 1) 0 bs ≡ begun_fault (place + 1) 0 (slice_split (λ b. b == slash) bs)
        → walk_fault (place + 1) (n + 1) bs ≡ begun_fault (place + 1) (n + 1) (slice_split (λ b. b == slash) bs)
        → (if t then (if n == 0 then Some (Empty place) else walk_fault (place + 1) 0 bs)
        else (if not (is_name_octet b) then Some (BadOctet place) else (if n == 254 then Some (ComponentTooLong place) else walk_fault (place + 1) (n + 1) bs)))
        ≡ begun_fault place n (cond t ([] ∷ slice_split (λ b. b == slash) bs) (onto_first b (slice_split (λ b. b == slash) bs)))
    by_slash true new more = ap (λ rest. if n == 0 then Some (Empty place) else rest) (new ∙ begun_fault-new (place + 1) (slice_split (λ b. b == slash) bs))
    by_slash false new more =
        ap (λ rest. if not (is_name_octet b) then Some (BadOctet place) else (if n == 254 then Some (ComponentTooLong place) else rest)) more
        ∙ sym (begun_fault-onto_first place n b (slice_split (λ b. b == slash) bs))

-- at the first component
pub walk_fault-components : (place : ℕ) (bs : List ℕ) → walk_fault place 0 bs ≡ components_fault place (slice_split (λ b. b == slash) bs)
walk_fault-components place bs = walk_fault-begun place 0 bs ∙ begun_fault-new place (slice_split (λ b. b == slash) bs)

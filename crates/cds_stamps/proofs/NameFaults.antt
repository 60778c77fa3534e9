-- Faults of names are at the first place at which the octets stop being the front of a name.
use Rattle.std.proofs.Common.{◌≡◌, ℕ, zero, suc, ◌+◌, ◌-◌, ◌≤◌, ◌<◌, Bool, true, false, List, [], ◌∷◌, ◌++◌}
use Rattle.std.proofs.Common.{length, take, get_or, Option, Some, None, refl, sym, ◌∙◌, ◌⊎◌, inl, inr, subst, arith, length-append, length-take-le}
use Rattle.std.specs.Prelude.{not, nat_lt, ◌==◌, ◌||◌, if◌then◌else◌}
use Rattle.cds_stamps.specs.declared.names.NameFault.{NameFault}
use Rattle.cds_stamps.specs.declared.names.NameFault.TheVariants.{Empty, BadOctet, ComponentTooLong}
use Rattle.cds_stamps.specs.declared.names.AttrFault.{AttrFault}
use Rattle.cds_stamps.specs.declared.names.AttrFault.TheVariants.{BadAttr}
use Rattle.cds_stamps.specs.Names.{is_name_octet, component_fault, simple_name_fault, longest_component, IsSimpleName}
use Rattle.cds_stamps.specs.Names.{is_attr_octet, attr_fault_from, attr_fault, longest_attr, IsAttrName}
use Rattle.cds_stamps.specs.Fronts.{IsFront, IsFirstBad, EndsEarly}
use Rattle.cds_stamps.proofs.NameLaws.{simple_name_laws, attr_name_laws}
use Rattle.cds_stamps.proofs.FirstFaults.{after, IsWalk, IsBad, IsEnd, Cut, cut, no_both, first_bad}

-- ---- simple names: the state is the place of the next octet

abbrev component_from : ℕ → List ℕ → Option NameFault
component_from place = component_fault place place

abbrev component_step : ℕ → ℕ → NameFault ⊎ ℕ
component_step place b =
    if not (is_name_octet b) then inl (BadOctet place) else (if place == longest_component + 1 then inl (ComponentTooLong place) else inr (place + 1))

component_walk : IsWalk component_from component_step (λ place. place)
component_walk =
    record {
      steps = λ place b bs. steps place (is_name_octet b) (place == longest_component + 1) bs;
      counts = λ s t b. counts s t (is_name_octet b) (s == longest_component + 1);
    }
  where
    steps : (place : ℕ) (octet full : Bool) (bs : List ℕ)
        → (if not octet then Some (BadOctet place) else (if full then Some (ComponentTooLong place) else component_from (place + 1) bs))
        ≡ after component_from component_step (λ place. place)
        (if not octet then inl (BadOctet place) else (if full then inl (ComponentTooLong place) else inr (place + 1))) bs
    steps place false full bs = refl
    steps place true true bs = refl
    steps place true false bs = refl

    counts : (s t : ℕ) (octet full : Bool)
        → (if not octet then inl (BadOctet s) else (if full then inl (ComponentTooLong s) else inr (s + 1))) ≡ inr t → t ≡ s + 1
    counts s t false full e = cc
    counts s t true true e = cc
    counts s t true false e = cc

-- what makes a fault one of this place
abbrev pub IsComponentFault : NameFault → ℕ → ℕ → Type 0
IsComponentFault fault place b =
    ((fault ≡ BadOctet place) × (is_name_octet b ≡ false))
    ⊎ ((fault ≡ ComponentTooLong place) × (is_name_octet b ≡ true) × (place ≡ longest_component + 1))

component_kind : (place b : ℕ) (fault : NameFault) → component_step place b ≡ inl fault → IsComponentFault fault place b
component_kind place b fault e = by_tests (is_name_octet b) refl (place == longest_component + 1) refl e
  where
    by_tests : (octet : Bool) → is_name_octet b ≡ octet → (full : Bool) → (place == longest_component + 1) ≡ full
        → (if not octet then inl (BadOctet place) else (if full then inl (ComponentTooLong place) else inr (place + 1))) ≡ inl fault
        → IsComponentFault fault place b
    by_tests false o full f e = inl (cc, o)
    by_tests true o true f e = inr (cc, o, grind (arith, f))
    by_tests true o false f e = cc

-- octets with which a component may go on from this place
going_on : (place : ℕ) → (rest : List ℕ) × (component_from place rest ≡ None) × (place < longest_component + 1 → 0 < length rest)
going_on place = by_room (nat_lt place (longest_component + 1)) refl
  where
    by_room : (room : Bool) → nat_lt place (longest_component + 1) ≡ room
        → (rest : List ℕ) × (component_from place rest ≡ None) × (place < longest_component + 1 → 0 < length rest)
    by_room true r = let before : (place == longest_component + 1) ≡ false = grind (arith, r) in (97 ∷ [], rw before refl, λ h. omega arith)
    by_room false r = ([], refl, λ h. absurd (grind (arith, r, h)))

-- the front of a simple name: octets that a name may go on from
name_front : (bs : List ℕ) (k : ℕ) → k < length bs
    → ((rest : List ℕ) → component_from (suc k) rest ≡ None → component_from 1 (take k bs ++ rest) ≡ None) → IsFront IsSimpleName (take k bs)
name_front bs k inside before = by_length k refl
  where
    -- octets without a fault are a simple name, if there are any
    filled : (octets : List ℕ) → 0 < length octets → component_from 1 octets ≡ None → IsSimpleName octets
    filled [] h e = absurd (omega (arith, h))
    filled (c ∷ cs) h e = (simple_name_laws (c ∷ cs)).0 e

    by_length : (n : ℕ) → k ≡ n → IsFront IsSimpleName (take k bs)
    by_length n same =
        let rest = going_on (suc k) in
        record { rest = rest.0; lawful = filled (take k bs ++ rest.0) (some n same rest.0 rest.2) (before rest.0 rest.1) }
      where
        some : (n : ℕ) → k ≡ n → (rest : List ℕ) → (suc k < longest_component + 1 → 0 < length rest) → 0 < length (take k bs ++ rest)
        some zero e rest h =
            let room : suc k < longest_component + 1 = omega (arith, e) in
            omega (arith, length-append (take k bs) rest, h room)
        some (suc m) e rest h = omega (arith, length-append (take k bs) rest, length-take-le k bs (let le : k ≤ length bs = omega (arith, inside) in le), e)

-- the fault of octets that are some is of the first with which no simple name goes on
pub record NameFirst (octets : List ℕ) (fault : NameFault) : Type 0 where
  pub place : ℕ
  pub first : IsFirstBad IsSimpleName octets place
  pub kind : IsComponentFault fault place (get_or octets (place - 1) 0)

component_first : (octets : List ℕ) (fault : NameFault) → component_from 1 octets ≡ Some fault
    → ((xs : List ℕ) → IsSimpleName xs → component_from 1 xs ≡ None) → NameFirst octets fault
component_first octets fault e lawful = by_kind c.kind
  where
    c : Cut component_from component_step (λ place. place) 1 octets fault
    c = cut component_from component_step (λ place. place) component_walk 1 octets fault e

    at : c.state ≡ suc c.k
    at = omega (arith, c.place)

    by_kind : IsBad component_from component_step (λ place. place) 1 octets fault c.k c.state
        ⊎ IsEnd component_from component_step (λ place. place) octets fault c.k c.state
        → NameFirst octets fault
    by_kind (inl b) =
        let before = name_front octets c.k b.inside (λ rest none. c.before rest (subst (λ (s : ℕ). component_from s rest ≡ None) (sym at) none)) in
        let here : ¬ IsFront IsSimpleName (take (suc c.k) octets) = λ front. no_both _ fault (lawful _ front.lawful) (b.here front.rest) in
        let last : suc c.k - 1 ≡ c.k = omega arith in
        record {
          place = suc c.k;
          first = first_bad IsSimpleName octets c.k (suc c.k) refl b.inside before here;
          kind =
              subst (λ (n : ℕ). IsComponentFault fault (suc c.k) (get_or octets n 0)) (sym last)
              (subst (λ (x : ℕ). IsComponentFault fault (suc c.k) x) (sym (b.there 0))
              (subst (λ (s : ℕ). IsComponentFault fault s b.item) at (component_kind c.state b.item fault b.bad)));
        }
    by_kind (inr m) = cc (m.missing)

simple_none : (xs : List ℕ) → IsSimpleName xs → component_from 1 xs ≡ None
simple_none [] name = refl
simple_none (b ∷ bs) name = (simple_name_laws (b ∷ bs)).1 name

-- an empty name ends early
pub simple_name_empty : (octets : List ℕ) (place : ℕ) → simple_name_fault octets ≡ Some (Empty place) → EndsEarly IsSimpleName octets place
simple_name_empty [] place e =
    let one : 1 ≡ place = cc (e) in
    record {
      end = sym one;
      before = record { rest = 97 ∷ []; lawful = (simple_name_laws (97 ∷ [])).0 refl };
      short = λ name. absurd (omega (arith, name.filled));
    }
simple_name_empty (b ∷ bs) place e =
    let found = component_first (b ∷ bs) (Empty place) e simple_none in
    absurd (no_empty found.place (get_or (b ∷ bs) (found.place - 1) 0) found.kind)
  where
    no_empty : (p x : ℕ) → IsComponentFault (Empty place) p x → ⊥
    no_empty p x (inl h) = absurd (cc (h.0))
    no_empty p x (inr h) = absurd (cc (h.0))

-- an octet that no name has
pub simple_name_octet : (octets : List ℕ) (place : ℕ) → simple_name_fault octets ≡ Some (BadOctet place)
    → IsFirstBad IsSimpleName octets place × (is_name_octet (get_or octets (place - 1) 0) ≡ false)
simple_name_octet [] place e = cc
simple_name_octet (b ∷ bs) place e =
    let found = component_first (b ∷ bs) (BadOctet place) e simple_none in
    of_kind found.place found.first found.kind
  where
    of_kind : (p : ℕ) → IsFirstBad IsSimpleName (b ∷ bs) p → IsComponentFault (BadOctet place) p (get_or (b ∷ bs) (p - 1) 0)
        → IsFirstBad IsSimpleName (b ∷ bs) place × (is_name_octet (get_or (b ∷ bs) (place - 1) 0) ≡ false)
    of_kind p first (inl h) =
        let at : p ≡ place = cc (h.0) in
        subst (λ (p : ℕ). IsFirstBad IsSimpleName (b ∷ bs) p × (is_name_octet (get_or (b ∷ bs) (p - 1) 0) ≡ false)) at (first, h.1)
    of_kind p first (inr h) = absurd (cc (h.0))

-- an octet of names that is one too many
pub simple_name_long : (octets : List ℕ) (place : ℕ) → simple_name_fault octets ≡ Some (ComponentTooLong place)
    → IsFirstBad IsSimpleName octets place × (is_name_octet (get_or octets (place - 1) 0) ≡ true)
simple_name_long [] place e = cc
simple_name_long (b ∷ bs) place e =
    let found = component_first (b ∷ bs) (ComponentTooLong place) e simple_none in
    of_kind found.place found.first found.kind
  where
    of_kind : (p : ℕ) → IsFirstBad IsSimpleName (b ∷ bs) p → IsComponentFault (ComponentTooLong place) p (get_or (b ∷ bs) (p - 1) 0)
        → IsFirstBad IsSimpleName (b ∷ bs) place × (is_name_octet (get_or (b ∷ bs) (place - 1) 0) ≡ true)
    of_kind p first (inl h) = absurd (cc (h.0))
    of_kind p first (inr h) =
        let at : p ≡ place = cc (h.0) in
        subst (λ (p : ℕ). IsFirstBad IsSimpleName (b ∷ bs) p × (is_name_octet (get_or (b ∷ bs) (p - 1) 0) ≡ true)) at (first, h.1)

-- ---- attribute names: the state is the place of the next octet

abbrev attr_step : ℕ → ℕ → AttrFault ⊎ ℕ
attr_step place b = if not (is_attr_octet b) || (place == longest_attr + 1) then inl (BadAttr place) else inr (place + 1)

attr_walk : IsWalk attr_fault_from attr_step (λ place. place)
attr_walk =
    record {
      steps = λ place b bs. steps place (not (is_attr_octet b) || (place == longest_attr + 1)) bs;
      counts = λ s t b. counts s t (not (is_attr_octet b) || (s == longest_attr + 1));
    }
  where
    steps : (place : ℕ) (bad : Bool) (bs : List ℕ) → (if bad then Some (BadAttr place) else attr_fault_from (place + 1) bs)
        ≡ after attr_fault_from attr_step (λ place. place) (if bad then inl (BadAttr place) else inr (place + 1)) bs
    steps place true bs = refl
    steps place false bs = refl

    counts : (s t : ℕ) (bad : Bool) → (if bad then inl (BadAttr s) else inr (s + 1)) ≡ inr t → t ≡ s + 1
    counts s t true e = cc
    counts s t false e = cc

attr_kind : (place b : ℕ) (fault : AttrFault) → attr_step place b ≡ inl fault → fault ≡ BadAttr place
attr_kind place b fault e = by_test (not (is_attr_octet b) || (place == longest_attr + 1)) e
  where
    by_test : (bad : Bool) → (if bad then inl (BadAttr place) else inr (place + 1)) ≡ inl fault → fault ≡ BadAttr place
    by_test true e = cc
    by_test false e = cc

-- octets with which an attribute name may go on from this place
attr_on : (place : ℕ) → (rest : List ℕ) × (attr_fault_from place rest ≡ None) × (place < longest_attr + 1 → 0 < length rest)
attr_on place = by_room (nat_lt place (longest_attr + 1)) refl
  where
    by_room : (room : Bool) → nat_lt place (longest_attr + 1) ≡ room
        → (rest : List ℕ) × (attr_fault_from place rest ≡ None) × (place < longest_attr + 1 → 0 < length rest)
    by_room true r = let before : (place == longest_attr + 1) ≡ false = grind (arith, r) in (97 ∷ [], rw before refl, λ h. omega arith)
    by_room false r = ([], refl, λ h. absurd (grind (arith, r, h)))

attr_front : (bs : List ℕ) (k : ℕ) → k < length bs
    → ((rest : List ℕ) → attr_fault_from (suc k) rest ≡ None → attr_fault_from 1 (take k bs ++ rest) ≡ None) → IsFront IsAttrName (take k bs)
attr_front bs k inside before =
    let rest = attr_on (suc k) in record { rest = rest.0; lawful = filled (take k bs ++ rest.0) (some k refl rest.0 rest.2) (before rest.0 rest.1) }
  where
    filled : (octets : List ℕ) → 0 < length octets → attr_fault_from 1 octets ≡ None → IsAttrName octets
    filled [] h e = absurd (omega (arith, h))
    filled (c ∷ cs) h e = (attr_name_laws (c ∷ cs)).0 e

    some : (n : ℕ) → k ≡ n → (rest : List ℕ) → (suc k < longest_attr + 1 → 0 < length rest) → 0 < length (take k bs ++ rest)
    some zero e rest h =
        let room : suc k < longest_attr + 1 = omega (arith, e) in
        omega (arith, length-append (take k bs) rest, h room)
    some (suc m) e rest h = omega (arith, length-append (take k bs) rest, length-take-le k bs (let le : k ≤ length bs = omega (arith, inside) in le), e)

attr_none : (xs : List ℕ) → IsAttrName xs → attr_fault_from 1 xs ≡ None
attr_none [] name = refl
attr_none (b ∷ bs) name = (attr_name_laws (b ∷ bs)).1 name

attr_first : (octets : List ℕ) (place : ℕ) → attr_fault_from 1 octets ≡ Some (BadAttr place) → IsFirstBad IsAttrName octets place
attr_first octets place e = by_kind c.kind
  where
    c : Cut attr_fault_from attr_step (λ place. place) 1 octets (BadAttr place)
    c = cut attr_fault_from attr_step (λ place. place) attr_walk 1 octets (BadAttr place) e

    at : c.state ≡ suc c.k
    at = omega (arith, c.place)

    same : (p : ℕ) → BadAttr place ≡ BadAttr p → place ≡ p
    same p e = cc

    by_kind : IsBad attr_fault_from attr_step (λ place. place) 1 octets (BadAttr place) c.k c.state
        ⊎ IsEnd attr_fault_from attr_step (λ place. place) octets (BadAttr place) c.k c.state
        → IsFirstBad IsAttrName octets place
    by_kind (inl b) =
        let before = attr_front octets c.k b.inside (λ rest none. c.before rest (subst (λ (s : ℕ). attr_fault_from s rest ≡ None) (sym at) none)) in
        let here : ¬ IsFront IsAttrName (take (suc c.k) octets) = λ front. no_both _ (BadAttr place) (attr_none _ front.lawful) (b.here front.rest) in
        first_bad IsAttrName octets c.k place (same c.state (attr_kind c.state b.item (BadAttr place) b.bad) ∙ at) b.inside before here
    by_kind (inr m) = cc (m.missing)

-- the fault of an attribute name is of its first octet with which none goes on, or none is there
pub attr_name_first : (octets : List ℕ) (place : ℕ) → attr_fault octets ≡ Some (BadAttr place)
    → IsFirstBad IsAttrName octets place ⊎ EndsEarly IsAttrName octets place
attr_name_first [] place e =
    let one : 1 ≡ place = cc (e) in
    inr (record {
      end = sym one;
      before = record { rest = 97 ∷ []; lawful = (attr_name_laws (97 ∷ [])).0 refl };
      short = λ name. absurd (omega (arith, name.filled));
    })
attr_name_first (b ∷ bs) place e = inl (attr_first (b ∷ bs) place e)

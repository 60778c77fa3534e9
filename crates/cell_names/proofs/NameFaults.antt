-- Faults of full names are at the first place at which the octets stop being the front of a name of
-- any length.
use Rattle.std.proofs.Common.{◌≡◌, ℕ, suc, ◌+◌, ◌≤◌, Bool, true, false, List, [], ◌∷◌, ◌++◌, length}
use Rattle.std.proofs.Common.{take, Option, Some, None, refl, sym, ap, ◌∙◌, ◌⊎◌, inl, inr, subst, arith, take_all}
use Rattle.std.specs.Prelude.{not, nat_eq, nat_lt, ◌==◌, ◌||◌, if◌then◌else◌}
use Rattle.std.specs.List.{AllByRecursion, slice_split, starts_with}
use Rattle.std.specs.Cmp.Lexicographic.{pointwise}
use Rattle.std.proofs.lemmas.Bool.Decides.{Decides-eqb}
use Rattle.std.proofs.lemmas.List.Elements.{All-from_recursion, recursion_from_All}
use Rattle.std.proofs.lemmas.Slice.Eq.{bytes_eq-Decides, starts_is}
use Rattle.cds_stamps.specs.declared.names.NameFault.{NameFault}
use Rattle.cds_stamps.specs.declared.names.NameFault.TheVariants.{Empty, BadOctet, ComponentTooLong, NameTooLong, NotLocal}
use Rattle.cds_stamps.specs.Names.{is_name_octet, IsSimpleName}
use Rattle.cds_stamps.specs.Fronts.{IsFront, IsFirstBad, EndsEarly}
use Rattle.cds_stamps.proofs.FirstFaults.{after, IsWalk, IsBad, IsEnd, Cut, cut, no_both, first_bad}
use Rattle.cell_names.specs.FullNames.{cell_root, slash, behind_slashes, full_name_octets, is_local}
use Rattle.cell_names.specs.FullNames.{components_of, components_fault, first_component, longest_name, name_fault, IsNameOfAnyLength}
use Rattle.cell_names.proofs.NameWalks.{walk_fault, walk_fault-components}
use Rattle.cell_names.proofs.FullNameLaws.{components_lawful, components_none, tail_of-slice_split, slice_split-tail_of}

-- ---- the walk over octets: the state is the place of the next octet, and how many the component has so far

abbrev State : Type 0
State = ℕ × ℕ

abbrev walk_from : State → List ℕ → Option NameFault
walk_from s = walk_fault s.0 s.1

-- an octet that is a slash or none, where the component has none so far; or that is of names or
-- not, where it is full
abbrev stepped : State → (at_slash none octet full : Bool) → NameFault ⊎ State
stepped s true true octet full = inl (Empty s.0)
stepped s true false octet full = inr (s.0 + 1, 0)
stepped s false none false full = inl (BadOctet s.0)
stepped s false none true true = inl (ComponentTooLong s.0)
stepped s false none true false = inr (s.0 + 1, s.1 + 1)

abbrev walk_step : State → ℕ → NameFault ⊎ State
walk_step s b = stepped s (b == slash) (s.1 == 0) (is_name_octet b) (s.1 == 254)

name_walk : IsWalk walk_from walk_step (λ s. s.0)
name_walk =
    record {
      steps = λ s b bs. steps s (b == slash) (s.1 == 0) (is_name_octet b) (s.1 == 254) bs;
      counts = λ s t b. counts s t (b == slash) (s.1 == 0) (is_name_octet b) (s.1 == 254);
    }
  where
    steps : (s : State) (at_slash none octet full : Bool) (bs : List ℕ)
        → (if at_slash then (if none then Some (Empty s.0) else walk_fault (s.0 + 1) 0 bs)
        else (if not octet then Some (BadOctet s.0) else (if full then Some (ComponentTooLong s.0) else walk_fault (s.0 + 1) (s.1 + 1) bs)))
        ≡ after walk_from walk_step (λ s. s.0) (stepped s at_slash none octet full) bs
    steps s true true octet full bs = refl
    steps s true false octet full bs = refl
    steps s false none false full bs = refl
    steps s false none true true bs = refl
    steps s false none true false bs = refl

    counts : (s t : State) (at_slash none octet full : Bool) → stepped s at_slash none octet full ≡ inr t → t.0 ≡ s.0 + 1
    counts s t true true octet full e = cc
    counts s t true false octet full e = cc
    counts s t false none false full e = cc
    counts s t false none true true e = cc
    counts s t false none true false e = cc

-- a fault of an octet at this place
abbrev pub IsPlaceFault : NameFault → ℕ → Type 0
IsPlaceFault fault place = (fault ≡ Empty place) ⊎ (fault ≡ BadOctet place) ⊎ (fault ≡ ComponentTooLong place)

walk_kind : (s : State) (b : ℕ) (fault : NameFault) → walk_step s b ≡ inl fault → IsPlaceFault fault s.0
walk_kind s b fault e = by_tests (b == slash) (s.1 == 0) (is_name_octet b) (s.1 == 254) e
  where
    by_tests : (at_slash none octet full : Bool) → stepped s at_slash none octet full ≡ inl fault → IsPlaceFault fault s.0
    by_tests true true octet full e = inl cc
    by_tests true false octet full e = cc
    by_tests false none false full e = inr (inl cc)
    by_tests false none true true e = inr (inr cc)
    by_tests false none true false e = cc

-- octets with which a name may go on from this state
going_on : (s : State) → (rest : List ℕ) × (walk_from s rest ≡ None)
going_on s = by_none (s.1 == 0) refl
  where
    by_none : (none : Bool) → (s.1 == 0) ≡ none → (rest : List ℕ) × (walk_from s rest ≡ None)
    by_none true n = let full : (s.1 == 254) ≡ false = grind (arith, n) in (97 ∷ [], rw full (let more : (s.1 + 1 == 0) ≡ false = grind arith in rw more refl))
    by_none false n = ([], rw n refl)

-- ---- names of any length

-- octets after `/.:/` without a fault are simple names with a slash between any two
walked_name : (bs : List ℕ) → walk_fault first_component 0 bs ≡ None → IsNameOfAnyLength (cell_root ++ slash ∷ bs)
walked_name bs e = record {
  components = slice_split (λ b. b == slash) bs;
  simple = All-from_recursion IsSimpleName _ (components_lawful first_component _ (sym (walk_fault-components first_component bs) ∙ e));
  spelled = ap (λ t. cell_root ++ t) (sym (tail_of-slice_split bs));
}

name_walked : (bs : List ℕ) → IsNameOfAnyLength (cell_root ++ slash ∷ bs) → walk_fault first_component 0 bs ≡ None
name_walked bs name = by_first name.components (recursion_from_All IsSimpleName name.components name.simple) name.spelled
  where
    by_first : (cs : List (List ℕ)) → AllByRecursion IsSimpleName cs → cell_root ++ slash ∷ bs ≡ full_name_octets cs → walk_fault first_component 0 bs ≡ None
    by_first [] each e = absurd (cc (e))
    by_first (c ∷ cs) each e =
        let behind : bs ≡ c ++ behind_slashes cs = cc (e) in
        ap (walk_fault first_component 0) behind ∙ walk_fault-components first_component (c ++ behind_slashes cs)
        ∙ ap (components_fault first_component) (slice_split-tail_of c cs each.0 each.1) ∙ components_none first_component (c ∷ cs) each

-- ---- the first place

-- a fault has one place
same_place : (fault : NameFault) (p q : ℕ) → IsPlaceFault fault p → IsPlaceFault fault q → p ≡ q
same_place fault p q (inl a) (inl b) = empty (sym a ∙ b)
  where
    empty : Empty p ≡ Empty q → p ≡ q
    empty e = cc
same_place fault p q (inr (inl a)) (inr (inl b)) = octet (sym a ∙ b)
  where
    octet : BadOctet p ≡ BadOctet q → p ≡ q
    octet e = cc
same_place fault p q (inr (inr a)) (inr (inr b)) = long (sym a ∙ b)
  where
    long : ComponentTooLong p ≡ ComponentTooLong q → p ≡ q
    long e = cc
same_place fault p q (inl a) (inr (inl b)) = absurd (cc (a, b))
same_place fault p q (inl a) (inr (inr b)) = absurd (cc (a, b))
same_place fault p q (inr (inl a)) (inl b) = absurd (cc (a, b))
same_place fault p q (inr (inl a)) (inr (inr b)) = absurd (cc (a, b))
same_place fault p q (inr (inr a)) (inl b) = absurd (cc (a, b))
same_place fault p q (inr (inr a)) (inr (inl b)) = absurd (cc (a, b))

-- the place is that of the first octet with which no name goes on, or a component is missing after
-- the last
abbrev pub IsAtFirst : List ℕ → NameFault → ℕ → Type 0
IsAtFirst octets fault place = IsFirstBad IsNameOfAnyLength octets place ⊎ (EndsEarly IsNameOfAnyLength octets place × (fault ≡ Empty place))

-- the end of octets in a component that has none
missing : (s : State) (fault : NameFault) → walk_from s [] ≡ Some fault → fault ≡ Empty s.0
missing s fault e = by_none (s.1 == 0) e
  where
    by_none : (none : Bool) → (if none then Some (Empty s.0) else None) ≡ Some fault → fault ≡ Empty s.0
    by_none true e = cc
    by_none false e = cc

-- the fault of octets after `/.:/`
walked_first : (bs : List ℕ) (fault : NameFault) (place : ℕ) → walk_fault first_component 0 bs ≡ Some fault → IsPlaceFault fault place
    → IsAtFirst (cell_root ++ slash ∷ bs) fault place
walked_first bs fault place e placed = by_kind c.kind
  where
    c : Cut walk_from walk_step (λ s. s.0) (first_component, 0) bs fault
    c = cut walk_from walk_step (λ s. s.0) name_walk (first_component, 0) bs fault e

    on : (rest : List ℕ) × (walk_from c.state rest ≡ None)
    on = going_on c.state

    front : IsFront IsNameOfAnyLength (cell_root ++ slash ∷ take c.k bs)
    front = record { rest = on.0; lawful = walked_name (take c.k bs ++ on.0) (c.before on.0 on.1) }

    by_kind : IsBad walk_from walk_step (λ s. s.0) (first_component, 0) bs fault c.k c.state ⊎ IsEnd walk_from walk_step (λ s. s.0) bs fault c.k c.state
        → IsAtFirst (cell_root ++ slash ∷ bs) fault place
    by_kind (inl b) =
        let here : ¬ IsFront IsNameOfAnyLength (cell_root ++ slash ∷ take (suc c.k) bs) =
        λ front. no_both _ fault (name_walked _ front.lawful) (b.here front.rest) in
        let is : place ≡ c.state.0 = same_place fault place c.state.0 placed (walk_kind c.state b.item fault b.bad) in
        let at : place ≡ suc (suc (suc (suc (suc c.k)))) = omega (arith, is, c.place) in
        inl (first_bad IsNameOfAnyLength (cell_root ++ slash ∷ bs) (suc (suc (suc (suc c.k)))) place at (omega (arith, b.inside)) front here)
    by_kind (inr m) =
        let end : fault ≡ Empty c.state.0 = missing c.state fault m.missing in
        let is : place ≡ c.state.0 = same_place fault place c.state.0 placed (inl end) in
        let all : length bs ≤ c.k = omega (arith, m.all) in
        inr (
          record {
            end = omega (arith, is, c.place, m.all);
            before = subst (λ (xs : List ℕ). IsFront IsNameOfAnyLength (cell_root ++ slash ∷ xs)) (take_all c.k bs all) front;
            short = λ name. no_both _ fault (name_walked bs name) e;
          },
          end ∙ ap Empty (sym is),
        )

-- a test that finds a fault, or does not
tested : {E : Type 0} (test : Bool) (fault : E) (rest : Option E) (e : E) → (if test then Some fault else rest) ≡ Some e
    → (fault ≡ e) ⊎ ((test ≡ false) × (rest ≡ Some e))
tested true fault rest e h = inl cc
tested false fault rest e h = inr (refl, h)

holds : (t : Bool) → not t ≡ false → t ≡ true
holds true e = refl
holds false e = cc

-- the fault of a full name's octets, where it has a place
pub name_fault-first : (octets : List ℕ) (fault : NameFault) (place : ℕ) → name_fault octets ≡ Some fault → IsPlaceFault fault place
    → IsAtFirst octets fault place
name_fault-first [] fault place e placed =
    let end : fault ≡ Empty 1 = cc (e) in
    let is : place ≡ 1 = same_place fault place 1 placed (inl end) in
    inr (
      record {
        end = is;
        before = record { rest = cell_root; lawful = record { components = []; simple = All-from_recursion IsSimpleName [] tt; spelled = refl } };
        short = λ name. absurd (cc (name.spelled));
      },
      end ∙ ap Empty (sym is),
    )
name_fault-first (b ∷ bs) fault place e placed = by_local (tested (not (is_local (b ∷ bs))) NotLocal _ fault e)
  where
    no_place : (f : NameFault) → f ≡ fault → (f ≡ NotLocal) ⊎ (f ≡ NameTooLong) → ⊥
    no_place f same (inl n) = by_placed placed
      where
        by_placed : IsPlaceFault fault place → ⊥
        by_placed (inl a) = absurd (cc (a, same, n))
        by_placed (inr (inl a)) = absurd (cc (a, same, n))
        by_placed (inr (inr a)) = absurd (cc (a, same, n))
    no_place f same (inr n) = by_placed placed
      where
        by_placed : IsPlaceFault fault place → ⊥
        by_placed (inl a) = absurd (cc (a, same, n))
        by_placed (inr (inl a)) = absurd (cc (a, same, n))
        by_placed (inr (inr a)) = absurd (cc (a, same, n))

    -- what is after `/.:`
    by_root : (t : Bool) → pointwise nat_eq (b ∷ bs) cell_root ≡ t → (t || starts_with nat_eq (b ∷ bs) (cell_root ++ slash ∷ [])) ≡ true
        → components_fault first_component (components_of (b ∷ bs)) ≡ Some fault → IsAtFirst (b ∷ bs) fault place
    by_root true root local e =
        let same : b ∷ bs ≡ cell_root = (bytes_eq-Decides (b ∷ bs) cell_root).0 root in
        absurd (cc (sym (ap (λ (o : List ℕ). components_fault first_component (components_of o)) same) ∙ e))
    by_root false root local e = behind _ ((starts_is Decides-eqb (b ∷ bs) (cell_root ++ slash ∷ []) _ refl).0 local) e
      where
        behind : (rest : List ℕ) → b ∷ bs ≡ cell_root ++ slash ∷ rest → components_fault first_component (components_of (b ∷ bs)) ≡ Some fault
            → IsAtFirst (b ∷ bs) fault place
        behind rest same e =
            let walked : walk_fault first_component 0 rest ≡ Some fault = walk_fault-components first_component rest
            ∙ sym (ap (λ (o : List ℕ). components_fault first_component (components_of o)) same) ∙ e in
            subst (λ (o : List ℕ). IsAtFirst o fault place) (sym same) (walked_first rest fault place walked placed)

    by_local : (NotLocal ≡ fault)
        ⊎ ((not (is_local (b ∷ bs)) ≡ false) ×
        ((if nat_lt longest_name (length (b ∷ bs)) then Some NameTooLong else components_fault first_component (components_of (b ∷ bs))) ≡ Some fault))
        → IsAtFirst (b ∷ bs) fault place
    by_local (inl same) = absurd (no_place NotLocal same (inl refl))
    by_local (inr l) = by_long (tested (nat_lt longest_name (length (b ∷ bs))) NameTooLong _ fault l.1)
      where
        by_long : (NameTooLong ≡ fault)
            ⊎ ((nat_lt longest_name (length (b ∷ bs)) ≡ false) × (components_fault first_component (components_of (b ∷ bs)) ≡ Some fault))
            → IsAtFirst (b ∷ bs) fault place
        by_long (inl same) = absurd (no_place NameTooLong same (inr refl))
        by_long (inr h) = by_root (pointwise nat_eq (b ∷ bs) cell_root) refl (holds _ l.0) h.1

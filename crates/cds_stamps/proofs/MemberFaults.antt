-- Faults of member lists are at the first member that is not above the one before it.
use Rattle.std.proofs.Common.{◌≡◌, ◌≢◌, ℕ, suc, ◌+◌, ◌≤◌, ◌<◌, Bool, true, false, List, []}
use Rattle.std.proofs.Common.{length, take, Option, Some, None, refl, sym, ap, ◌∙◌, ◌⊎◌, inl, inr, arith}
use Rattle.std.specs.Prelude.{nat_lt, ◌==◌, ◌||◌, if◌then◌else◌}
use Rattle.cds_stamps.specs.declared.members.MembersFault.{MembersFault}
use Rattle.cds_stamps.specs.declared.members.MembersFault.TheVariants.{BadCount, NotAscending, BadMaster}
use Rattle.cds_stamps.specs.Members.{Member, most_members, masters_in, IsAscending, first_unordered, master_fault, unordered_or, members_fault}
use Rattle.cds_stamps.specs.Fronts.{IsFront, IsFirstBad}
use Rattle.cds_stamps.proofs.MemberLaws.{first_unordered-none}
use Rattle.cds_stamps.proofs.FirstFaults.{after, IsWalk, IsBad, IsEnd, Cut, cut, no_both, first_bad}

-- the place of the next member, and the least house that may come there
abbrev State : Type 0
State = ℕ × ℕ

abbrev unordered_from : State → List Member → Option ℕ
unordered_from s = first_unordered s.0 s.1

-- the step where a house is below the least, and where it is not
abbrev stepped : State → Member → Bool → ℕ ⊎ State
stepped s m true = inl s.0
stepped s m false = inr (s.0 + 1, m.house + 1)

abbrev unordered_step : State → Member → ℕ ⊎ State
unordered_step s m = stepped s m (nat_lt m.house s.1)

unordered_walk : IsWalk unordered_from unordered_step (λ s. s.0)
unordered_walk = record { steps = λ s m ms. steps s m (nat_lt m.house s.1) ms; counts = λ s t m. counts s t m (nat_lt m.house s.1) }
  where
    steps : (s : State) (m : Member) (below : Bool) (ms : List Member) → (if below then Some s.0 else first_unordered (s.0 + 1) (m.house + 1) ms)
        ≡ after unordered_from unordered_step (λ s. s.0) (stepped s m below) ms
    steps s m true ms = refl
    steps s m false ms = refl

    counts : (s t : State) (m : Member) (below : Bool) → stepped s m below ≡ inr t → t.0 ≡ s.0 + 1
    counts s t m true e = cc
    counts s t m false e = cc

unordered_kind : (s : State) (m : Member) (place : ℕ) → unordered_step s m ≡ inl place → place ≡ s.0
unordered_kind s m place e = by_test (nat_lt m.house s.1) e
  where
    by_test : (below : Bool) → stepped s m below ≡ inl place → place ≡ s.0
    by_test true e = cc
    by_test false e = cc

-- the member that is out of order is the first with which no ascending list goes on
unordered_first : (ms : List Member) (place : ℕ) → first_unordered 1 0 ms ≡ Some place → IsFirstBad IsAscending ms place
unordered_first ms place e = by_kind c.kind
  where
    c : Cut unordered_from unordered_step (λ s. s.0) (1, 0) ms place
    c = cut unordered_from unordered_step (λ s. s.0) unordered_walk (1, 0) ms place e

    by_kind : IsBad unordered_from unordered_step (λ s. s.0) (1, 0) ms place c.k c.state ⊎ IsEnd unordered_from unordered_step (λ s. s.0) ms place c.k c.state
        → IsFirstBad IsAscending ms place
    by_kind (inl b) =
        let before : IsFront IsAscending (take c.k ms) = record { rest = []; lawful = (first_unordered-none _).0 (c.before [] refl) } in
        let here : ¬ IsFront IsAscending (take (suc c.k) ms) = λ front. no_both _ place ((first_unordered-none _).1 front.lawful) (b.here front.rest) in
        let is : place ≡ c.state.0 = unordered_kind c.state b.item place b.bad in
        let at : place ≡ suc c.k = omega (arith, is, c.place) in
        first_bad IsAscending ms c.k place at b.inside before here
    by_kind (inr m) = cc (m.missing)

-- which test finds a fault
tested : {E : Type 0} (test : Bool) (fault : E) (rest : Option E) (e : E) → (if test then Some fault else rest) ≡ Some e
    → ((test ≡ true) × (fault ≡ e)) ⊎ ((test ≡ false) × (rest ≡ Some e))
tested true fault rest e h = inl (refl, cc)
tested false fault rest e h = inr (refl, h)

-- a list of lawful length has a fault of its order, or of its masters
by_order : (masters : ℕ) (order : Option ℕ) (fault : MembersFault) → unordered_or (master_fault masters) order ≡ Some fault
    → ((place : ℕ) × (order ≡ Some place) × (fault ≡ NotAscending place)) ⊎ ((order ≡ None) × (masters ≢ 1) × (fault ≡ BadMaster))
by_order masters (Some place) fault e = inl (place, refl, cc)
by_order masters None fault e = let found = by_masters (masters == 1) refl e in inr (refl, found.0, found.1)
  where
    by_masters : (one : Bool) → (masters == 1) ≡ one → (if one then None else Some BadMaster) ≡ Some fault → (masters ≢ 1) × (fault ≡ BadMaster)
    by_masters true m e = cc
    by_masters false m e = let other : masters ≢ 1 = grind (arith, m) in (other, cc)

-- what a fault of a member list says
pub record IsMemberFault (ms : List Member) (fault : MembersFault) : Type 0 where
  pub count : fault ≡ BadCount → ¬ ((0 < length ms) × (length ms ≤ most_members))
  pub order : (place : ℕ) → fault ≡ NotAscending place → (0 < length ms) × (length ms ≤ most_members) × IsFirstBad IsAscending ms place
  pub master : fault ≡ BadMaster → (0 < length ms) × (length ms ≤ most_members) × IsAscending ms × (masters_in ms ≢ 1)

-- the fault that is found says so
pub members_fault-first : (ms : List Member) (fault : MembersFault) → members_fault ms ≡ Some fault → IsMemberFault ms fault
members_fault-first ms fault e = by_test (tested ((length ms == 0) || nat_lt most_members (length ms)) BadCount _ fault e)
  where
    counted : ((length ms == 0) || nat_lt most_members (length ms)) ≡ false → (0 < length ms) × (length ms ≤ most_members)
    counted t = (grind (arith, t), grind (arith, t))

    by_test : ((((length ms == 0) || nat_lt most_members (length ms)) ≡ true) × (BadCount ≡ fault))
        ⊎ ((((length ms == 0) || nat_lt most_members (length ms)) ≡ false)
        × (unordered_or (master_fault (masters_in ms)) (first_unordered 1 0 ms) ≡ Some fault))
        → IsMemberFault ms fault
    by_test (inl t) = record {
      count = λ is count. absurd (grind (arith, t.0, count.0, count.1));
      order = λ place is. absurd (let no : BadCount ≡ NotAscending place = t.1 ∙ is in cc (no));
      master = λ is. absurd (let no : BadCount ≡ BadMaster = t.1 ∙ is in cc (no));
    }
    by_test (inr t) = of_order (counted t.0) (by_order (masters_in ms) (first_unordered 1 0 ms) fault t.1)
      where
        of_order : (0 < length ms) × (length ms ≤ most_members)
            → ((place : ℕ) × (first_unordered 1 0 ms ≡ Some place) × (fault ≡ NotAscending place))
            ⊎ ((first_unordered 1 0 ms ≡ None) × (masters_in ms ≢ 1) × (fault ≡ BadMaster))
            → IsMemberFault ms fault
        of_order few (inl o) = record {
          count = λ is. absurd (let no : NotAscending o.0 ≡ BadCount = sym o.2 ∙ is in cc (no));
          order = λ place is. (few.0, few.1, unordered_first ms place (o.1 ∙ ap Some (same_place o.0 place (sym o.2 ∙ is))));
          master = λ is. absurd (let no : NotAscending o.0 ≡ BadMaster = sym o.2 ∙ is in cc (no));
        }
          where
            same_place : (p q : ℕ) → NotAscending p ≡ NotAscending q → p ≡ q
            same_place p q e = cc
        of_order few (inr o) = record {
          count = λ is. absurd (let no : BadMaster ≡ BadCount = sym o.2 ∙ is in cc (no));
          order = λ place is. absurd (let no : BadMaster ≡ NotAscending place = sym o.2 ∙ is in cc (no));
          master = λ is. (few.0, few.1, (first_unordered-none ms).0 o.0, o.1);
        }

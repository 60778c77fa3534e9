-- Rounds of skulks: the places whose bits are set, and the houses that the model names.
use Rattle.std.proofs.Common.{◌≡◌, ℕ, zero, suc, ◌+◌, ◌<◌, ◌≤◌, Bool, true, false, ◌&&◌, ◌||◌, ◌==◌, cond, List, [], ◌∷◌, length, map, Option, Some}
use Rattle.std.proofs.Common.{None, MatchBool}
use Rattle.std.proofs.Common.{refl, sym, ap, subst, ◌∙◌, arith}
use Rattle.std.specs.Prelude.{slice_get, nat_lt, unwrap_or, if◌then◌else◌}
use Rattle.std.specs.List.{position_from}
use Rattle.std.proofs.lemmas.List.{length-map}
use Rattle.std.proofs.lemmas.Bool.Decides.{nat_tests}
use Rattle.cds_stamps.specs.declared.mask.MemberMask.{MemberMask}
use Rattle.cds_stamps.specs.declared.stamp.Stamp.{Stamp}
use Rattle.cds_stamps.specs.declared.members.Member as declared
use Rattle.cds_stamps.specs.declared.numbers.HouseNo.{HouseNo}
use Rattle.cds_stamps.specs.Members.{Member, member_of, members_of, most_members, members_fault, first_unordered, is_listed, place_of, others_of}
use Rattle.cds_stamps.specs.Places.{has_place, each_place}
use Rattle.cds_stamps.specs.Stamps.{is_stamp}
use Rattle.cds_stamps.proofs.Masks.{same_place, other_place}
use Rattle.cds_stamps.proofs.MemberLaws.{no_members_fault}
use Rattle.skulk_core.specs.declared.skulk.Skulk.{Skulk}
use Rattle.skulk_core.specs.declared.skulk.Skulk.TheVariants as skulk
use Rattle.skulk_core.specs.declared.skulk.Next.{Next}
use Rattle.skulk_core.specs.declared.skulk.Next.TheVariants as next
use Rattle.skulk_core.specs.MasterRounds.{running_stamp, also, only, IsGathering, IsSpreading, Begins, IsStale, Waits, Gathers, Spreads, TakesGathered, TakesSpread}
use Rattle.cell_model.specs.Cells as model
use Rattle.cell_model.specs.Commands as commands
use Rattle.cell_model.specs.Sets.{has}
use Rattle.cell_model.specs.Turns as turn
use Rattle.cell_model.specs.Turns.{HouseStep, all_answered}
use Rattle.cell_model.proofs.Lists.{eq_from, stamp_from}
use Rattle.house_directory.specs.DirectoryTakes.{place_in}
use Rattle.house_directory.specs.ModelReplicas.{StandsRound, StandsPhase}

-- ---- places of houses

-- the houses of an ordered list are not below the least that may come
pub above : (place least : ℕ) (ms : List Member) → first_unordered place least ms ≡ None → (p : ℕ) (m : Member) → slice_get ms p ≡ Some m → least ≤ m.house
above place least [] h p m is = absurd (cc)
above place least (y ∷ ys) h p m is = by (above (place + 1) (y.house + 1) ys) (nat_lt y.house least) refl p is
  where
    by : (first_unordered (place + 1) (y.house + 1) ys ≡ None → (p : ℕ) (m : Member) → slice_get ys p ≡ Some m → y.house + 1 ≤ m.house) → (b : Bool)
        → nat_lt y.house least ≡ b → (p : ℕ) → slice_get (y ∷ ys) p ≡ Some m → least ≤ m.house
    by more true low p is = absurd (let e : Some place ≡ None = ap (λ b. cond b (Some place) (first_unordered (place + 1) (y.house + 1) ys)) (sym low)
        ∙ h in cc)
    by more false low zero is = let same : y ≡ m = cc in let e = ap (λ (x : Member). x.house) same in grind (arith, nat_tests)
    by more false low (suc q) is =
        let rest : first_unordered (place + 1) (y.house + 1) ys ≡ None =
        ap (λ b. cond b (Some place) (first_unordered (place + 1) (y.house + 1) ys)) (sym low) ∙ h in
        let high = more rest q m is in grind (arith, nat_tests)

-- the members after the first of an ordered list are in order, and above it
pub rest_ordered : (place least : ℕ) (y : Member) (ys : List Member) → first_unordered place least (y ∷ ys) ≡ None
    → first_unordered (place + 1) (y.house + 1) ys ≡ None
rest_ordered place least y ys h = by (nat_lt y.house least) refl
  where
    by : (b : Bool) → nat_lt y.house least ≡ b → first_unordered (place + 1) (y.house + 1) ys ≡ None
    by true low = absurd (let e : Some place ≡ None = ap (λ b. cond b (Some place) (first_unordered (place + 1) (y.house + 1) ys)) (sym low) ∙ h in cc)
    by false low = ap (λ b. cond b (Some place) (first_unordered (place + 1) (y.house + 1) ys)) (sym low) ∙ h

-- a place that is found is not before the first
found_from : (x i k : ℕ) (ms : List Member) → position_from (λ (m : Member). m.house == x) i ms ≡ Some k → (i ≤ k) × (k < i + length ms)
found_from x i k [] h = absurd (cc)
found_from x i k (y ∷ ys) h = by (found_from x (i + 1) k ys) (y.house == x) refl
  where
    by : (position_from (λ (m : Member). m.house == x) (i + 1) ys ≡ Some k → (i + 1 ≤ k) × (k < i + 1 + length ys))
        → (b : Bool) → (y.house == x) ≡ b → (i ≤ k) × (k < i + length (y ∷ ys))
    by rest true is = let e : Some i ≡ Some k = ap (λ b. cond b (Some i) (position_from (λ (m : Member). m.house == x) (i + 1) ys)) (sym is) ∙ h in
        let same : i ≡ k = cc in (omega arith, omega arith)
    by rest false is =
        let e : position_from (λ (m : Member). m.house == x) (i + 1) ys ≡ Some k =
        ap (λ b. cond b (Some i) (position_from (λ (m : Member). m.house == x) (i + 1) ys)) (sym is) ∙ h in
        let w = rest e in (omega (arith, w.0), omega (arith, w.1))

-- of a listed house a place is found
listed_from : (x i : ℕ) (ms : List Member) → is_listed x ms ≡ true → (k : ℕ) × (position_from (λ (m : Member). m.house == x) i ms ≡ Some k)
listed_from x i [] h = absurd (cc)
listed_from x i (y ∷ ys) h = by (listed_from x (i + 1) ys) (y.house == x) refl
  where
    by : (is_listed x ys ≡ true → (k : ℕ) × (position_from (λ (m : Member). m.house == x) (i + 1) ys ≡ Some k))
        → (b : Bool) → (y.house == x) ≡ b → (k : ℕ) × (position_from (λ (m : Member). m.house == x) i (y ∷ ys) ≡ Some k)
    by rest true is = (i, ap (λ b. cond b (Some i) (position_from (λ (m : Member). m.house == x) (i + 1) ys)) is)
    by rest false is =
        let w = rest (ap (λ b. b || is_listed x ys) (sym is) ∙ h) in
        (w.0, ap (λ b. cond b (Some i) (position_from (λ (m : Member). m.house == x) (i + 1) ys)) is ∙ w.1)

-- the member at the place that is found
member_at : (x i k : ℕ) (ms : List Member) → position_from (λ (m : Member). m.house == x) i ms ≡ Some k
    → (p : ℕ) × (m : Member) × (slice_get ms p ≡ Some m) × (m.house ≡ x)
member_at x i k [] h = absurd (cc)
member_at x i k (y ∷ ys) h = by (member_at x (i + 1) k ys) (y.house == x) refl
  where
    by : (position_from (λ (m : Member). m.house == x) (i + 1) ys ≡ Some k → (p : ℕ) × (m : Member) × (slice_get ys p ≡ Some m) × (m.house ≡ x))
        → (b : Bool) → (y.house == x) ≡ b → (p : ℕ) × (m : Member) × (slice_get (y ∷ ys) p ≡ Some m) × (m.house ≡ x)
    by rest true is = (0, y, refl, eq_from y.house x is)
    by rest false is =
        let w = rest (ap (λ b. cond b (Some i) (position_from (λ (m : Member). m.house == x) (i + 1) ys)) (sym is) ∙ h) in (suc w.0, w.1, w.2, w.3)

-- a house of which a place is found is listed
from_found : (x i k : ℕ) (ms : List Member) → position_from (λ (m : Member). m.house == x) i ms ≡ Some k → is_listed x ms ≡ true
from_found x i k [] h = absurd (cc)
from_found x i k (y ∷ ys) h = by (from_found x (i + 1) k ys) (y.house == x) refl
  where
    by : (position_from (λ (m : Member). m.house == x) (i + 1) ys ≡ Some k → is_listed x ys ≡ true) → (b : Bool) → (y.house == x) ≡ b
        → is_listed x (y ∷ ys) ≡ true
    by rest true is = ap (λ b. b || is_listed x ys) is
    by rest false is =
        ap (λ b. b || is_listed x ys) is ∙ rest (ap (λ b. cond b (Some i) (position_from (λ (m : Member). m.house == x) (i + 1) ys)) (sym is) ∙ h)

-- a house is listed exactly where it has a place
pub unlisted : (x : ℕ) (ms : List Member) → place_of x ms ≡ None → is_listed x ms ≡ false
unlisted x ms none = by (is_listed x ms) refl
  where
    by : (b : Bool) → is_listed x ms ≡ b → b ≡ false
    by true is = absurd (let w = listed_from x 0 ms is in let e : Some w.0 ≡ None = sym w.1 ∙ none in cc)
    by false is = refl

-- a house that has a place is listed
pub placed : (x k : ℕ) (ms : List Member) → place_of x ms ≡ Some k → is_listed x ms ≡ true
placed x k ms is = from_found x 0 k ms is

-- the place of a house is within the list
pub within : (x k : ℕ) (ms : List Member) → place_of x ms ≡ Some k → k < length ms
within x k ms is = let w = found_from x 0 k ms is in omega (arith, w.1)

-- a house that is listed has a place
pub place_listed : (x : ℕ) (ms : List Member) → is_listed x ms ≡ true → place_of x ms ≡ Some (unwrap_or (place_of x ms) 0)
place_listed x ms is = let w = listed_from x 0 ms is in rw w.1 refl

-- a member is at the place that is found exactly where it is the house
tie : (x i k place least : ℕ) (ms : List Member) → first_unordered place least ms ≡ None → position_from (λ (m : Member). m.house == x) i ms ≡ Some k
    → (p : ℕ) (m : Member) → slice_get ms p ≡ Some m → (i + p == k) ≡ (m.house == x)
tie x i k place least [] sorted h p m is = absurd (cc)
tie x i k place least (y ∷ ys) sorted h p m is =
    by (tie x (i + 1) k (place + 1) (y.house + 1) ys (rest_ordered place least y ys sorted)) (y.house == x) refl p is
  where
    by : (position_from (λ (m : Member). m.house == x) (i + 1) ys ≡ Some k → (p : ℕ) (m : Member) → slice_get ys p ≡ Some m
        → (i + 1 + p == k) ≡ (m.house == x))
        → (b : Bool) → (y.house == x) ≡ b → (p : ℕ) → slice_get (y ∷ ys) p ≡ Some m → (i + p == k) ≡ (m.house == x)
    by rest true here zero is =
        let e : Some i ≡ Some k = ap (λ b. cond b (Some i) (position_from (λ (m : Member). m.house == x) (i + 1) ys)) (sym here) ∙ h in
        let same : i ≡ k = cc in let own : y ≡ m = cc in
        same_place (i + 0) k (omega arith) ∙ sym here ∙ ap (λ (m : Member). m.house == x) own
    by rest true here (suc q) is =
        let e : Some i ≡ Some k = ap (λ b. cond b (Some i) (position_from (λ (m : Member). m.house == x) (i + 1) ys)) (sym here) ∙ h in
        let same : i ≡ k = cc in
        let high = above (place + 1) (y.house + 1) ys (rest_ordered place least y ys sorted) q m is in
        other_place (i + suc q) k (λ e. absurd (omega arith)) ∙ sym (other_place m.house x (λ e. absurd (grind (arith, nat_tests))))
    by rest false here zero is =
        let e : position_from (λ (m : Member). m.house == x) (i + 1) ys ≡ Some k =
        ap (λ b. cond b (Some i) (position_from (λ (m : Member). m.house == x) (i + 1) ys)) (sym here) ∙ h in
        let w = found_from x (i + 1) k ys e in let own : y ≡ m = cc in
        other_place (i + 0) k (λ e. absurd (omega (arith, w.0))) ∙ sym here ∙ ap (λ (m : Member). m.house == x) own
    by rest false here (suc q) is =
        let e : position_from (λ (m : Member). m.house == x) (i + 1) ys ≡ Some k =
        ap (λ b. cond b (Some i) (position_from (λ (m : Member). m.house == x) (i + 1) ys)) (sym here) ∙ h in
        ap (λ n. n == k) (let same : i + suc q ≡ (i + 1) + q = omega arith in same)
        ∙ rest e q m is

-- ---- who has answered

-- the places of those houses, and of the house itself
abbrev pub IsPlaces : (me : ℕ) → List Member → (ℕ → Bool) → List ℕ → Type 0
IsPlaces me ms test answered = (p : ℕ) (m : Member) → slice_get ms p ≡ Some m → test p ≡ ((m.house == me) || has m.house answered)

-- a test at one place more than n, from its first place
each_from_first : (n : ℕ) (test : ℕ → Bool) → each_place (suc n) test ≡ (test 0 && each_place n (λ p. test (suc p)))
each_from_first zero test = by (test 0)
  where
    by : (b : Bool) → (true && b) ≡ (b && true)
    by true = refl
    by false = refl
each_from_first (suc n) test =
    ap (λ b. b && test (suc n)) (each_from_first n test) ∙ by (test 0) (each_place n (λ p. test (suc p))) (test (suc n))
  where
    by : (a b c : Bool) → ((a && b) && c) ≡ (a && (b && c))
    by true b c = refl
    by false b c = refl

-- each place is set exactly where each other member has answered
pub all_set : (me : ℕ) (ms : List Member) (test : ℕ → Bool) (answered : List ℕ) → IsPlaces me ms test answered
    → each_place (length ms) test ≡ all_answered (others_of me ms) answered
all_set me [] test answered places = refl
all_set me (y ∷ ys) test answered places =
    each_from_first (length ys) test ∙ ap (λ b. b && each_place (length ys) (λ p. test (suc p))) (places 0 y refl)
    ∙ ap (λ b. ((y.house == me) || has y.house answered) && b) (all_set me ys (λ p. test (suc p)) answered (λ p m is. places (suc p) m is))
    ∙ by (y.house == me)
  where
    by : (b : Bool) → ((b || has y.house answered) && all_answered (others_of me ys) answered)
        ≡ all_answered (cond b (others_of me ys) (y.house ∷ others_of me ys)) answered
    by true = refl
    by false = refl

module _ (me : ℕ) (ms : List Member) (lawful : members_fault ms ≡ None) where
  pub ordered : first_unordered 1 0 ms ≡ None
  ordered = (no_members_fault ms lawful).2

  pub at_place : (x k : ℕ) → place_of x ms ≡ Some k → (p : ℕ) (m : Member) → slice_get ms p ≡ Some m → (p == k) ≡ (m.house == x)
  at_place x k is p m got = ap (λ n. n == k) (let same : p ≡ 0 + p = omega arith in same) ∙ tie x 0 k 1 0 ms ordered is p m got

  -- one more has answered
  pub one_more : (mask : MemberMask) (answered : List ℕ) (x k : ℕ) → place_of x ms ≡ Some k → IsPlaces me ms (has_place mask) answered
      → IsPlaces me ms (also mask k) (x ∷ answered)
  one_more mask answered x k is places p m got =
      ap (λ b. b || (p == k)) (places p m got) ∙ ap (λ b. ((m.house == me) || has m.house answered) || b) (at_place x k is p m got)
      ∙ by (m.house == me) (has m.house answered) (m.house == x)
    where
      by : (a b c : Bool) → ((a || b) || c) ≡ (a || (c || b))
      by true b c = refl
      by false true true = refl
      by false true false = refl
      by false false true = refl
      by false false false = refl

  -- the house alone has answered
  pub alone : (k : ℕ) → place_of me ms ≡ Some k → IsPlaces me ms (only k) []
  alone k is p m got = at_place me k is p m got ∙ by (m.house == me)
    where
      by : (b : Bool) → b ≡ (b || false)
      by true = refl
      by false = refl

-- the running stamps of a phase and of the model's are one
pub same_running : (me : ℕ) (ms : List Member) (s : Skulk) (p : model.Phase) → StandsPhase me ms s p → running_stamp s ≡ turn.running_skulk_stamp p
same_running me ms skulk.Idle model.Idle h = refl
same_running me ms (skulk.Gathering t mask) (model.Gathering u answered) h = ap Some h.stamp
same_running me ms (skulk.Spreading t mask) (model.Spreading u answered) h = ap Some h.stamp
same_running me ms skulk.Idle (model.Gathering u answered) h = elim h [ ]
same_running me ms skulk.Idle (model.Spreading u answered) h = elim h [ ]
same_running me ms (skulk.Gathering t mask) model.Idle h = elim h [ ]
same_running me ms (skulk.Gathering t mask) (model.Spreading u answered) h = elim h [ ]
same_running me ms (skulk.Spreading t mask) model.Idle h = elim h [ ]
same_running me ms (skulk.Spreading t mask) (model.Gathering u answered) h = elim h [ ]

-- a house whose first round runs is listed
pub phase_listed : (me : ℕ) (ms : List Member) (s : Skulk) (u : Stamp) (answered : List ℕ) → StandsPhase me ms s (model.Gathering u answered)
    → is_listed me ms ≡ true
phase_listed me ms skulk.Idle u answered h = elim h [ ]
phase_listed me ms (skulk.Gathering t mask) u answered h = h.listed
phase_listed me ms (skulk.Spreading t mask) u answered h = elim h [ ]

-- ---- answers, in the program and in the model

-- an answer of the first round: it is stale; it is merged in, and the house waits on; or the second
-- round begins
pub data GatherRow (now : model.House) (m : model.Message) (t : Stamp) (c : model.Copy) (r : model.Replica) (p : model.Phase) (old phase : Skulk) (n : Next)
    : Type 0 where
  stale : turn.take_gathered now m t c r p ≡ turn.stale t p → n ≡ next.Stale (turn.running_skulk_stamp p) → GatherRow now m t c r p old phase n
  waits : (q : model.Phase) → turn.take_gathered now m t c r p ≡ turn.take_and_answer now m (model.Held (record (turn.merge_copy r c) { phase = q })) []
      → StandsPhase m.receiver r.members phase q → n ≡ next.Nothing → GatherRow now m t c r p old phase n
  spreads : turn.take_gathered now m t c r p
      ≡ turn.take_and_answer now m (model.Held (record (turn.merge_copy r c) { phase = model.Spreading t [] }))
      (turn.to_others now m r (model.Spread t (turn.copy_of (turn.merge_copy r c))))
      → StandsPhase m.receiver r.members phase (model.Spreading t []) → n ≡ next.SendSpread → GatherRow now m t c r p old phase n

-- an answer of the second round: it is stale; the house waits on; or the skulk is complete
pub data AckRow (now : model.House) (m : model.Message) (t : Stamp) (r : model.Replica) (p : model.Phase) (old phase : Skulk) (n : Next) : Type 0 where
  stale : turn.take_ack now m t r p ≡ turn.stale t p → n ≡ next.Stale (turn.running_skulk_stamp p) → phase ≡ old → AckRow now m t r p old phase n
  waits : (q : model.Phase) → turn.take_ack now m t r p ≡ turn.take_and_answer now m (model.Held (record r { phase = q })) []
      → StandsPhase m.receiver r.members phase q → n ≡ next.Nothing → AckRow now m t r p old phase n
  completes : turn.take_ack now m t r p
      ≡ turn.takes now m (model.Held (record r { all_up_to = turn.later_up_to r.all_up_to t; phase = model.Idle })) (turn.to_others now m r (model.Advance t))
      (commands.Complete t)
      → phase ≡ skulk.Idle → n ≡ next.Complete t → AckRow now m t r p old phase n

module _ (now : model.House) (m : model.Message) (t : Stamp) (r : model.Replica) (from mine : ℕ) (lawful : members_fault r.members ≡ None)
    (here : place_of m.sender r.members ≡ Some from) (own : is_listed m.receiver r.members ≡ true → place_of m.receiver r.members ≡ Some mine) where
  -- the round of another mask
  another_round : (s u : Stamp) (mask : MemberMask) (test : ℕ → Bool) (answered : List ℕ) → is_listed m.receiver r.members ≡ true → s ≡ u
      → ((p : ℕ) → has_place mask p ≡ test p) → IsPlaces m.receiver r.members test answered → StandsRound m.receiver r.members s mask u answered
  another_round s u mask test answered listed stamp same places =
      record { listed = listed; stamp = stamp; places = λ p m got. same p ∙ places p m got }

  -- all have answered, by the mask and by the list
  all_answers : (s u : Stamp) (mask : MemberMask) (answered : List ℕ) → StandsRound m.receiver r.members s mask u answered
      → each_place (length r.members) (also mask from) ≡ all_answered (others_of m.receiver r.members) (m.sender ∷ answered)
  all_answers s u mask answered round =
      all_set m.receiver r.members (also mask from) (m.sender ∷ answered) (one_more m.receiver r.members lawful mask answered m.sender from here round.places)

  module _ (c : model.Copy) where
    -- an answer of the round that runs, by whether it was the last one missing
    abbrev gathered_or : Stamp → List ℕ → Bool → HouseStep
    gathered_or u answered b =
        if b
        then turn.take_and_answer now m (model.Held (record (turn.merge_copy r c) { phase = model.Spreading u [] }))
        (turn.to_others now m r (model.Spread u (turn.copy_of (turn.merge_copy r c))))
        else turn.take_and_answer now m (model.Held (record (turn.merge_copy r c) { phase = model.Gathering u answered })) []

    -- by whether it is of the round that runs
    abbrev answered_or : Stamp → List ℕ → Bool → HouseStep
    answered_or u answered b =
        if b then gathered_or u (m.sender ∷ answered) (all_answered (others_of m.receiver r.members) (m.sender ∷ answered))
        else turn.stale t (model.Gathering u answered)

    -- what becomes of the phase, by whether all have answered
    abbrev Goes : Stamp → MemberMask → Skulk → Next → Bool → Type 0
    Goes s mask phase n b =
        MatchBool b (IsSpreading s (only mine) phase × (n ≡ next.SendSpread)) (IsGathering s (also mask from) phase × (n ≡ next.Nothing))

    gathers : (s u : Stamp) (mask : MemberMask) (answered : List ℕ) (phase : Skulk) (n : Next) → StandsRound m.receiver r.members s mask u answered
        → is_stamp t s ≡ true → (all : Bool) → each_place (length r.members) (also mask from) ≡ all
        → Gathers s mask from (length r.members) mine phase n
        → GatherRow now m t c r (model.Gathering u answered) (skulk.Gathering s mask) phase n
    gathers s u mask answered phase n round same true all does =
        let it : t ≡ u = stamp_from t s same ∙ round.stamp in
        let w : IsSpreading s (only mine) phase × (n ≡ next.SendSpread) =
        subst (Goes s mask phase n) all does in
        spreads
        (ap (answered_or u answered)
        (ap (is_stamp t) (sym round.stamp) ∙ same)
        ∙ ap (gathered_or u (m.sender ∷ answered)) (sym (all_answers s u mask answered round) ∙ all)
        ∙ ap (λ v. gathered_or v (m.sender ∷ answered) true) (sym it))
        (subst (λ x. StandsPhase m.receiver r.members x (model.Spreading t [])) (sym w.0.round)
        (another_round s t w.0.mask (only mine) [] round.listed (sym (stamp_from t s same)) w.0.places
        (alone m.receiver r.members lawful mine (own round.listed))))
        w.1
    gathers s u mask answered phase n round same false all does =
        let w : IsGathering s (also mask from) phase × (n ≡ next.Nothing) =
        subst (Goes s mask phase n) all does in
        waits (model.Gathering u (m.sender ∷ answered))
        (ap (answered_or u answered)
        (ap (is_stamp t) (sym round.stamp) ∙ same)
        ∙ ap (gathered_or u (m.sender ∷ answered)) (sym (all_answers s u mask answered round) ∙ all))
        (subst (λ x. StandsPhase m.receiver r.members x (model.Gathering u (m.sender ∷ answered))) (sym w.0.round)
        (another_round s u w.0.mask (also mask from) (m.sender ∷ answered) round.listed round.stamp w.0.places
        (one_more m.receiver r.members lawful mask answered m.sender from here round.places)))
        w.1

    abbrev joined_or : Stamp → List ℕ → Bool → HouseStep
    joined_or u answered b = if b then turn.take_and_answer now m (model.Held (turn.merge_copy r c)) [] else turn.stale t (model.Spreading u answered)

    -- the answer of the first round, by the phases
    pub gather_row : (old phase : Skulk) (p : model.Phase) (n : Next) → r.phase ≡ p → StandsPhase m.receiver r.members old p
        → TakesGathered t from (length r.members) mine old phase n → GatherRow now m t c r p old phase n
    gather_row skulk.Idle phase model.Idle n is h does = stale refl does.1
    gather_row (skulk.Gathering s mask) phase (model.Gathering u answered) n is h does = by (is_stamp t s) refl does
      where
        by : (b : Bool) → is_stamp t s ≡ b
            → MatchBool b (Gathers s mask from (length r.members) mine phase n) (IsStale (skulk.Gathering s mask) phase n)
            → GatherRow now m t c r (model.Gathering u answered) (skulk.Gathering s mask) phase n
        by true same does = gathers s u mask answered phase n h same (each_place (length r.members) (also mask from)) refl does
        by false other does =
            stale
            (ap (answered_or u answered)
            (ap (is_stamp t) (sym h.stamp) ∙ other))
            (does.1 ∙ ap (λ v. next.Stale (Some v)) h.stamp)
    gather_row (skulk.Spreading s mask) phase (model.Spreading u answered) n is h does = by (is_stamp t s) refl does
      where
        by : (b : Bool) → is_stamp t s ≡ b
            → MatchBool b (Waits (skulk.Spreading s mask) phase n) (IsStale (skulk.Spreading s mask) phase n)
            → GatherRow now m t c r (model.Spreading u answered) (skulk.Spreading s mask) phase n
        by true same does =
            waits (model.Spreading u answered)
            (ap (joined_or u answered) (ap (is_stamp t) (sym h.stamp) ∙ same)
            ∙ ap (λ q. turn.take_and_answer now m (model.Held (record (turn.merge_copy r c) { phase = q })) []) is)
            (subst (λ x. StandsPhase m.receiver r.members x (model.Spreading u answered)) (sym does.0) h)
            does.1
        by false other does = stale (ap (joined_or u answered) (ap (is_stamp t) (sym h.stamp) ∙ other)) (does.1 ∙ ap (λ v. next.Stale (Some v)) h.stamp)
    gather_row skulk.Idle phase (model.Gathering u answered) n is h does = elim h [ ]
    gather_row skulk.Idle phase (model.Spreading u answered) n is h does = elim h [ ]
    gather_row (skulk.Gathering s mask) phase model.Idle n is h does = elim h [ ]
    gather_row (skulk.Gathering s mask) phase (model.Spreading u answered) n is h does = elim h [ ]
    gather_row (skulk.Spreading s mask) phase model.Idle n is h does = elim h [ ]
    gather_row (skulk.Spreading s mask) phase (model.Gathering u answered) n is h does = elim h [ ]

  -- an answer of the second round, by whether it was the last one missing
  abbrev spread_or : Stamp → List ℕ → Bool → HouseStep
  spread_or u answered b =
      if b
      then turn.takes now m (model.Held (record r { all_up_to = turn.later_up_to r.all_up_to u; phase = model.Idle })) (turn.to_others now m r (model.Advance u))
      (commands.Complete u)
      else turn.take_and_answer now m (model.Held (record r { phase = model.Spreading u answered })) []

  -- by whether it is of the round that runs
  abbrev acked_or : Stamp → List ℕ → Bool → HouseStep
  acked_or u answered b =
      if b then spread_or u (m.sender ∷ answered) (all_answered (others_of m.receiver r.members) (m.sender ∷ answered))
      else turn.stale t (model.Spreading u answered)

  acks : (s u : Stamp) (mask : MemberMask) (answered : List ℕ) (phase : Skulk) (n : Next) → StandsRound m.receiver r.members s mask u answered
      → is_stamp t s ≡ true → (all : Bool) → each_place (length r.members) (also mask from) ≡ all
      → Spreads s mask from (length r.members) phase n
      → AckRow now m t r (model.Spreading u answered) (skulk.Spreading s mask) phase n
  acks s u mask answered phase n round same true all does =
      let it : t ≡ u = stamp_from t s same ∙ round.stamp in
      let w : (phase ≡ skulk.Idle) × (n ≡ next.Complete s) =
      subst (λ b. MatchBool b ((phase ≡ skulk.Idle) × (n ≡ next.Complete s)) (IsSpreading s (also mask from) phase × (n ≡ next.Nothing))) all does in
      completes
      (ap (acked_or u answered)
      (ap (is_stamp t) (sym round.stamp) ∙ same)
      ∙ ap (spread_or u (m.sender ∷ answered)) (sym (all_answers s u mask answered round) ∙ all)
      ∙ ap (λ v. spread_or v (m.sender ∷ answered) true) (sym it))
      w.0
      (w.1 ∙ ap next.Complete (sym (stamp_from t s same)))
  acks s u mask answered phase n round same false all does =
      let w : IsSpreading s (also mask from) phase × (n ≡ next.Nothing) =
      subst (λ b. MatchBool b ((phase ≡ skulk.Idle) × (n ≡ next.Complete s)) (IsSpreading s (also mask from) phase × (n ≡ next.Nothing))) all does in
      waits (model.Spreading u (m.sender ∷ answered))
      (ap (acked_or u answered)
      (ap (is_stamp t) (sym round.stamp) ∙ same)
      ∙ ap (spread_or u (m.sender ∷ answered)) (sym (all_answers s u mask answered round) ∙ all))
      (subst (λ x. StandsPhase m.receiver r.members x (model.Spreading u (m.sender ∷ answered))) (sym w.0.round)
      (another_round s u w.0.mask (also mask from) (m.sender ∷ answered) round.listed round.stamp w.0.places
      (one_more m.receiver r.members lawful mask answered m.sender from here round.places)))
      w.1

  abbrev kept_or : Stamp → List ℕ → Bool → HouseStep
  kept_or u answered b = if b then turn.take_and_answer now m (model.Held r) [] else turn.stale t (model.Gathering u answered)

  -- the answer of the second round, by the phases
  pub ack_row : (old phase : Skulk) (p : model.Phase) (n : Next) → r.phase ≡ p → StandsPhase m.receiver r.members old p
      → TakesSpread t from (length r.members) old phase n → AckRow now m t r p old phase n
  ack_row skulk.Idle phase model.Idle n is h does = stale refl does.1 does.0
  ack_row (skulk.Gathering s mask) phase (model.Gathering u answered) n is h does = by (is_stamp t s) refl does
    where
      by : (b : Bool) → is_stamp t s ≡ b → MatchBool b (Waits (skulk.Gathering s mask) phase n) (IsStale (skulk.Gathering s mask) phase n)
          → AckRow now m t r (model.Gathering u answered) (skulk.Gathering s mask) phase n
      by true same does =
          waits (model.Gathering u answered)
          (ap (kept_or u answered) (ap (is_stamp t) (sym h.stamp) ∙ same) ∙ ap (λ q. turn.take_and_answer now m (model.Held (record r { phase = q })) []) is)
          (subst (λ x. StandsPhase m.receiver r.members x (model.Gathering u answered)) (sym does.0) h)
          does.1
      by false other does = stale (ap (kept_or u answered) (ap (is_stamp t) (sym h.stamp) ∙ other)) (does.1 ∙ ap (λ v. next.Stale (Some v)) h.stamp) does.0
  ack_row (skulk.Spreading s mask) phase (model.Spreading u answered) n is h does = by (is_stamp t s) refl does
    where
      by : (b : Bool) → is_stamp t s ≡ b → MatchBool b (Spreads s mask from (length r.members) phase n) (IsStale (skulk.Spreading s mask) phase n)
          → AckRow now m t r (model.Spreading u answered) (skulk.Spreading s mask) phase n
      by true same does = acks s u mask answered phase n h same (each_place (length r.members) (also mask from)) refl does
      by false other does =
          stale
          (ap (acked_or u answered)
          (ap (is_stamp t) (sym h.stamp) ∙ other))
          (does.1 ∙ ap (λ v. next.Stale (Some v)) h.stamp)
          does.0
  ack_row skulk.Idle phase (model.Gathering u answered) n is h does = elim h [ ]
  ack_row skulk.Idle phase (model.Spreading u answered) n is h does = elim h [ ]
  ack_row (skulk.Gathering s mask) phase model.Idle n is h does = elim h [ ]
  ack_row (skulk.Gathering s mask) phase (model.Spreading u answered) n is h does = elim h [ ]
  ack_row (skulk.Spreading s mask) phase model.Idle n is h does = elim h [ ]
  ack_row (skulk.Spreading s mask) phase (model.Gathering u answered) n is h does = elim h [ ]

-- ---- a skulk that begins

-- a house that is not listed has all of the list for others
others_all : (x : ℕ) (ms : List Member) → is_listed x ms ≡ false → others_of x ms ≡ map (λ (m : Member). m.house) ms
others_all x [] h = refl
others_all x (y ∷ ys) h = by (others_all x ys) (y.house == x) refl
  where
    by : (is_listed x ys ≡ false → others_of x ys ≡ map (λ (m : Member). m.house) ys) → (b : Bool) → (y.house == x) ≡ b
        → others_of x (y ∷ ys) ≡ y.house ∷ map (λ (m : Member). m.house) ys
    by rest true is = absurd (let e : true ≡ false = ap (λ b. b || is_listed x ys) (sym is) ∙ h in cc)
    by rest false is =
        ap (λ b. if b then others_of x ys else y.house ∷ others_of x ys) is
        ∙ ap (λ hs. y.house ∷ hs) (rest (ap (λ b. b || is_listed x ys) (sym is) ∙ h))

-- a house is not listed among ordered members that are all above it
pub rest_unlisted : (place x : ℕ) (ys : List Member) → first_unordered place (x + 1) ys ≡ None → is_listed x ys ≡ false
rest_unlisted place x ys sorted = by (is_listed x ys) refl
  where
    by : (b : Bool) → is_listed x ys ≡ b → b ≡ false
    by true is = absurd (let w = listed_from x 0 ys is in
        let m = member_at x 0 w.0 ys w.1 in
        let high = above place (x + 1) ys sorted m.0 m.1 m.2 in omega (arith, high, m.3))
    by false is = refl

-- a listed house has all but itself for others
count_others : (x place least : ℕ) (ms : List Member) → first_unordered place least ms ≡ None → is_listed x ms ≡ true
    → suc (length (others_of x ms)) ≡ length ms
count_others x place least [] sorted h = absurd (cc)
count_others x place least (y ∷ ys) sorted h = by (count_others x (place + 1) (y.house + 1) ys (rest_ordered place least y ys sorted)) (y.house == x) refl
  where
    by : (is_listed x ys ≡ true → suc (length (others_of x ys)) ≡ length ys) → (b : Bool) → (y.house == x) ≡ b
        → suc (length (others_of x (y ∷ ys))) ≡ suc (length ys)
    by rest true is =
        let same : y.house ≡ x = eq_from y.house x is in
        ap (λ b. suc (length (if b then others_of x ys else y.house ∷ others_of x ys))) is
        ∙ ap (λ (hs : List ℕ). suc (length hs)) (others_all x ys (rest_unlisted (place + 1) x ys
        (subst (λ n. first_unordered (place + 1) (n + 1) ys ≡ None) same (rest_ordered place least y ys sorted))))
        ∙ ap suc (length-map ys (λ (m : Member). m.house))
    by rest false is =
        ap (λ b. suc (length (if b then others_of x ys else y.house ∷ others_of x ys))) is
        ∙ ap suc (rest (ap (λ b. b || is_listed x ys) (sym is) ∙ h))

-- a skulk that begins is complete at once where there are no others; else its first round runs
pub data BeginRow (me : ℕ) (ms : List Member) (t : Stamp) (phase : Skulk) (n : Next) : Type 0 where
  complete : others_of me ms ≡ [] → phase ≡ skulk.Idle → n ≡ next.Complete t → BeginRow me ms t phase n
  begun : (y : ℕ) (ys : List ℕ) → others_of me ms ≡ y ∷ ys → StandsPhase me ms phase (model.Gathering t []) → n ≡ next.Nothing → BeginRow me ms t phase n

-- a skulk that a member begins is complete at once, or runs its first round as the model has it
pub begin_row : (me mine : ℕ) (ms : List Member) (t : Stamp) (phase : Skulk) (n : Next) → members_fault ms ≡ None → place_of me ms ≡ Some mine
    → Begins t (length ms) mine phase n → BeginRow me ms t phase n
begin_row me mine ms t phase n lawful here does = by (length ms == 1) refl does (others_of me ms) refl
  where
    listed : is_listed me ms ≡ true
    listed = placed me mine ms here

    counted : suc (length (others_of me ms)) ≡ length ms
    counted = count_others me 1 0 ms (no_members_fault ms lawful).2 listed

    by : (b : Bool) → (length ms == 1) ≡ b → MatchBool b ((phase ≡ skulk.Idle) × (n ≡ next.Complete t)) (IsGathering t (only mine) phase × (n ≡ next.Nothing))
        → (hs : List ℕ) → others_of me ms ≡ hs → BeginRow me ms t phase n
    by true one does [] is = complete is does.0 does.1
    by true one does (y ∷ ys) is = absurd (let many : suc (suc (length ys)) ≡ length ms = ap (λ hs. suc (length hs)) (sym is)
        ∙ counted in grind (arith, nat_tests))
    by false one does [] is = absurd (let few : 1 ≡ length ms = ap (λ (hs : List ℕ). suc (length hs)) (sym is) ∙ counted in grind (arith, nat_tests))
    by false one does (y ∷ ys) is =
        begun y ys is
        (subst (λ x. StandsPhase me ms x (model.Gathering t [])) (sym does.0.round)
        (record { listed = listed; stamp = refl; places = λ p m got. does.0.places p ∙ alone me ms lawful mine here p m got }))
        does.1

-- a member list has as many members in the program as in the model, and at least one
pub counted : (ms : List declared.Member) → members_fault (members_of ms) ≡ None → (0 < length ms) × (length ms ≤ most_members)
counted ms lawful =
    let facts = no_members_fault (members_of ms) lawful in
    (subst (λ n. 0 < n) (length-map ms member_of) facts.0, subst (λ n. n ≤ most_members) (length-map ms member_of) facts.1)

-- the place of a house is one of the list
pub place_within : (house : HouseNo) (ms : List declared.Member) → 0 < length ms → place_in house ms < length ms
place_within house ms some = by (place_of house.0 (members_of ms)) refl
  where
    by : (o : Option ℕ) → place_of house.0 (members_of ms) ≡ o → unwrap_or o 0 < length ms
    by None is = some
    by (Some k) is = subst (λ n. k < n) (length-map ms member_of) (within house.0 k (members_of ms) is)

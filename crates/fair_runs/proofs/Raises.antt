-- While a house stays in its epoch, its AllUpTo does not fall.
use Rattle.std.proofs.Common.{inl, inr, ◌≡◌, ◌≢◌, ℕ, ◌+◌, ◌≤◌, ◌<◌, ◌⊎◌, Bool, true, false, eqb, cond, List, [], Option, Some, refl, sym, ap, ◌∙◌, subst, arith}
use Rattle.cds_stamps.specs.declared.stamp.Stamp.{Stamp}
use Rattle.cds_stamps.specs.Members.{Member, since_in}
use Rattle.cds_stamps.specs.Semilattice.{maybe}
use Rattle.cds_stamps.specs.Stamps.{later_stamp}
use Rattle.cell_model.specs.Cells.{Replica, Slot, Absent, Held, House, Copy, Join, Message, Cell, IsHeld, put}
use Rattle.cell_model.specs.Commands.{Answer, Accepted}
use Rattle.cell_model.specs.Sets.{In}
use Rattle.cell_model.specs.Turns.{with_slot, with_marks, first_replica, epoch_replica, crash_slot, crashed_house, started_house}
use Rattle.cell_model.specs.Steps.{member_list_of}
use Rattle.cell_model.proofs.Lists.{eq_from}
use Rattle.cell_model.proofs.Moves.{Act, accepts, skulks, lone, updates, gives, gathers, turns, gathers_again, spreads, acks_early, acks, completes, advances}
use Rattle.cell_model.proofs.Moves.{copies, keeps, leaves, new_marks, Move, stays, houses, clocks, loses, crashes, starts, acts, founds, crowns, Steps, one, mkdirs}
use Rattle.fair_runs.specs.Converging.{IsAllUpTo}
use Rattle.fair_runs.proofs.UpTos as up_tos
use Rattle.fair_runs.proofs.UpTos.{up_to_of}
use Rattle.fair_runs.proofs.Phases.{epoch_in, slot_changed}

-- a house holds the directory before a step and after it, in one epoch, in which no Join lists a
-- house since a later one
pub record Staying (g g' : Cell) (x d : ℕ) (r r' : Replica) : Type 0 where
  pub at : IsHeld g x d r
  pub at' : IsHeld g' x d r'
  pub epoch : r.epoch ≡ r'.epoch
  pub known : g.top d ≢ 0
  pub top : r.epoch ≤ g.top d
  pub next : g.next_dir ≤ d → g.top d ≡ 0
  pub joins : (m : Message) (ms : List Member) (copy : Copy) → In m g.bag → m.dir ≡ d → m.body ≡ Join ms copy → since_in ms m.receiver 0 ≤ m.epoch

module _ (g g' : Cell) (x d : ℕ) (t : Stamp) (r r' : Replica) (w : Staying g g' x d r r') (low : IsAllUpTo t r.all_up_to) where
  -- the slot is as before
  unchanged : (g'.house x).slots d ≡ (g.house x).slots d → IsAllUpTo t r'.all_up_to
  unchanged e = subst (λ (o : Option Stamp). IsAllUpTo t o) (ap up_to_of (sym w.at ∙ sym e ∙ w.at')) low

  -- a replica that the house holds before the step
  held_here : (y e : ℕ) (q : Replica) → y ≡ x → e ≡ d → (g.house y).slots e ≡ Held q → q ≡ r
  held_here y e q i j at =
      let k : Held q ≡ Held r = sym at ∙ ap (λ (z : ℕ). (g.house z).slots e) i ∙ ap (g.house x).slots j ∙ w.at in cc

  -- the AllUpTo is as before
  kept : (q : Replica) → q ≡ r → q.all_up_to ≡ r'.all_up_to → IsAllUpTo t r'.all_up_to
  kept q is up = subst (λ (o : Option Stamp). IsAllUpTo t o) (sym (ap (λ (z : Replica). z.all_up_to) is) ∙ up) low

  -- another one is joined in
  joined : (q : Replica) (o : Option Stamp) → q ≡ r → maybe later_stamp q.all_up_to o ≡ r'.all_up_to → IsAllUpTo t r'.all_up_to
  joined q o is up =
      subst (λ (z : Option Stamp). IsAllUpTo t z) (ap (λ (z : Replica). maybe later_stamp z.all_up_to o) (sym is) ∙ up) (up_tos.joined t r.all_up_to o low)

  -- what the house does at this directory
  act_raises : (y e floor : ℕ) (s : Slot) (posts : List Message) (a : Answer) (n : List Accepted) → Act g y e floor s posts a n → y ≡ x → e ≡ d → s ≡ Held r'
      → IsAllUpTo t r'.all_up_to
  act_raises y e floor s posts a n (accepts _ _ u q st ns k ok) i j at = kept q (held_here y e q i j k.held) (ap up_to_of at)
  act_raises y e floor s posts a n (skulks _ _ q u ns k master) i j at = kept q (held_here y e q i j k.held) (ap up_to_of at)
  act_raises y e floor s posts a n (lone _ _ q u k master none) i j at = joined q (Some u) (held_here y e q i j k.held) (ap up_to_of at)
  act_raises y e floor s posts a n (updates m marks q ns k) i j at = kept q (held_here y e q i j k.held) (ap up_to_of at)
  act_raises y e floor s posts a n (gives m u q ns k) i j at = kept q (held_here y e q i j k.held) (ap up_to_of at)
  act_raises y e floor s posts a n (gathers m u copy b q ns k run) i j at = joined q copy.all_up_to (held_here y e q i j k.held) (ap up_to_of at)
  act_raises y e floor s posts a n (turns m u copy b q ns k run all) i j at = joined q copy.all_up_to (held_here y e q i j k.held) (ap up_to_of at)
  act_raises y e floor s posts a n (gathers_again m u copy b q ns k run) i j at = joined q copy.all_up_to (held_here y e q i j k.held) (ap up_to_of at)
  act_raises y e floor s posts a n (spreads m u copy q ns k) i j at = joined q copy.all_up_to (held_here y e q i j k.held) (ap up_to_of at)
  act_raises y e floor s posts a n (acks_early m u b q ns k run) i j at = kept q (held_here y e q i j k.held) (ap up_to_of at)
  act_raises y e floor s posts a n (acks m u b q ns k run) i j at = kept q (held_here y e q i j k.held) (ap up_to_of at)
  act_raises y e floor s posts a n (completes m u b q ns k run all) i j at = joined q (Some u) (held_here y e q i j k.held) (ap up_to_of at)
  act_raises y e floor s posts a n (advances m u q ns k) i j at = joined q (Some u) (held_here y e q i j k.held) (ap up_to_of at)
  act_raises y e floor s posts a n (copies m ms copy ns k early) i j at =
      let before : (r.epoch ≤ m.epoch) × (r.epoch < since_in ms m.receiver 0) =
      early r (ap (λ (z : ℕ). (g.house z).slots m.dir) i ∙ ap (g.house x).slots j ∙ w.at) in
      let lt : r.epoch < since_in ms m.receiver 0 = before.1 in
      let le : since_in ms m.receiver 0 ≤ m.epoch = w.joins m ms copy k.posted j k.is in
      let new : m.epoch ≡ r'.epoch = ap epoch_in at in
      let old : r.epoch ≡ r'.epoch = w.epoch in absurd (omega arith)
  act_raises y e floor s posts a n (keeps m ms copy q ns k held le since) i j at = joined q copy.all_up_to (held_here y e q i j held) (ap up_to_of at)
  act_raises y e floor s posts a n (leaves m ns k early) i j at = absurd (cc)

  -- a change of one slot of one house
  changed : (f : ℕ → House) (y e floor : ℕ) (s : Slot) → (f x).slots d ≡ (g.house x).slots d
      → (g'.house x).slots d ≡ (put f y (with_slot (f y) e floor s) x).slots d → (y ≡ x → e ≡ d → s ≡ Held r' → IsAllUpTo t r'.all_up_to)
      → IsAllUpTo t r'.all_up_to
  changed f y e floor s was now here = by_place (slot_changed f y e floor s x d)
    where
      by_place : ((y ≡ x) × (e ≡ d) × ((put f y (with_slot (f y) e floor s) x).slots d ≡ s))
          ⊎ ((put f y (with_slot (f y) e floor s) x).slots d ≡ (f x).slots d) → IsAllUpTo t r'.all_up_to
      by_place (inl z) = here z.0 z.1 (sym z.2 ∙ sym now ∙ w.at')
      by_place (inr z) = unchanged (now ∙ z ∙ was)

-- what a move does
move_raises : (g g' : Cell) (x d : ℕ) (t : Stamp) (r r' : Replica) (p : Option (ℕ × ℕ)) (a : Answer) (n : List Accepted) → Move g p g' a n
    → Staying g g' x d r r' → IsAllUpTo t r.all_up_to → IsAllUpTo t r'.all_up_to
move_raises g g' x d t r r' p a n (stays _ q) w low = unchanged g g x d t r r' w low refl
move_raises g g' x d t r r' p a n (houses y node new) w low = by_house (eqb x y) w.at'
  where
    by_house : (b : Bool) → (cond b (record { node = node; clock = 0; floor = 0; up = true; slots = λ e. Absent }) (g.house x)).slots d ≡ Held r'
        → IsAllUpTo t r'.all_up_to
    by_house true q = absurd (cc)
    by_house false q = kept g g' x d t r r' w low r refl (ap up_to_of (sym w.at ∙ q))
move_raises g g' x d t r r' p a n (clocks y time made) w low = by_house (eqb x y) refl w.at'
  where
    by_house : (b : Bool) → eqb x y ≡ b → (cond b (record (g.house y) { clock = time }) (g.house x)).slots d ≡ Held r' → IsAllUpTo t r'.all_up_to
    by_house true i q = kept g g' x d t r r' w low r refl (ap up_to_of (sym w.at ∙ ap (λ (z : ℕ). (g.house z).slots d) (eq_from x y i) ∙ q))
    by_house false i q = kept g g' x d t r r' w low r refl (ap up_to_of (sym w.at ∙ q))
move_raises g g' x d t r r' p a n (loses k) w low = unchanged g g' x d t r r' w low refl
move_raises g g' x d t r r' p a n (crashes y up) w low = by_house (eqb x y) refl w.at'
  where
    by_house : (b : Bool) → eqb x y ≡ b → (cond b (crashed_house (g.house y)) (g.house x)).slots d ≡ Held r' → IsAllUpTo t r'.all_up_to
    by_house true i q =
        kept g g' x d t r r' w low r refl
        (ap up_to_of (sym (ap crash_slot w.at) ∙ ap (λ (z : ℕ). crash_slot ((g.house z).slots d)) (eq_from x y i) ∙ q))
    by_house false i q = kept g g' x d t r r' w low r refl (ap up_to_of (sym w.at ∙ q))
move_raises g g' x d t r r' p a n (starts y made) w low = by_house (eqb x y) refl w.at'
  where
    by_house : (b : Bool) → eqb x y ≡ b → (cond b (started_house (g.house y)) (g.house x)).slots d ≡ Held r' → IsAllUpTo t r'.all_up_to
    by_house true i q = kept g g' x d t r r' w low r refl (ap up_to_of (sym w.at ∙ ap (λ (z : ℕ). (g.house z).slots d) (eq_from x y i) ∙ q))
    by_house false i q = kept g g' x d t r r' w low r refl (ap up_to_of (sym w.at ∙ q))
move_raises g g' x d t r r' p a n (acts y e pe floor s posts _ _ act) w low =
    changed g g' x d t r r' w low g.house y e floor s refl refl (λ i j k. act_raises g g' x d t r r' w low y e floor s posts a n act i j k)
move_raises g g' x d t r r' p a n (founds e m rs ss ns root up none) w low =
    changed g g' x d t r r' w low g.house m e (g.house m).floor (Held (first_replica (member_list_of [] 1 m rs ss))) refl refl
    (λ i j k. absurd (w.known (subst (λ (z : ℕ). g.top z ≡ 0) j none)))
move_raises g g' x d t r r' p a n (crowns e m rs ss q up known held listed since) w low =
    changed g g' x d t r r' w low g.house m e (g.house m).floor (Held (epoch_replica (g.top e + 1) (member_list_of (g.present e) (g.top e + 1) m rs ss) q)) refl
    refl
    (λ i j k. let new : g.top e + 1 ≡ r'.epoch = ap epoch_in k in
    let top : r.epoch ≤ g.top e = subst (λ (z : ℕ). r.epoch ≤ g.top z) (sym j) w.top in
    let old : r.epoch ≡ r'.epoch = w.epoch in absurd (omega arith))

-- what a command does
pub step_raises : (g g' : Cell) (x d : ℕ) (t : Stamp) (r r' : Replica) (p : Option (ℕ × ℕ)) (a : Answer) (n : List Accepted) → Steps g p g' a n
    → Staying g g' x d r r' → IsAllUpTo t r.all_up_to → IsAllUpTo t r'.all_up_to
step_raises g g' x d t r r' p a n (one _ _ _ move) w low = move_raises g g' x d t r r' p a n move w low
step_raises g g' x d t r r' p a n (mkdirs y e m u rs ss q s ns _ k ok up known) w low =
    by_parent (slot_changed g.house y e s.time (Held (with_marks q (new_marks q u s))) x d)
  where
    mid : ℕ → House
    mid = put g.house y (with_slot (g.house y) e s.time (Held (with_marks q (new_marks q u s))))

    -- the child has no number yet
    child : g.next_dir ≡ d → ⊥
    child i = let le : g.next_dir ≤ d = omega (arith, i) in w.known (w.next le)

    by_child : (mid x).slots d ≡ (g.house x).slots d → IsAllUpTo t r'.all_up_to
    by_child was =
        changed g g' x d t r r' w low mid m g.next_dir (mid m).floor (Held (first_replica (member_list_of [] 1 m rs ss))) was refl (λ i j z. absurd (child j))

    by_parent : ((y ≡ x) × (e ≡ d) × ((mid x).slots d ≡ Held (with_marks q (new_marks q u s)))) ⊎ ((mid x).slots d ≡ (g.house x).slots d) → IsAllUpTo t r'.all_up_to
    by_parent (inr was) = by_child was
    by_parent (inl z) = by_slot (slot_changed mid m g.next_dir (mid m).floor (Held (first_replica (member_list_of [] 1 m rs ss))) x d)
      where
        after : Slot
        after = (put mid m (with_slot (mid m) g.next_dir (mid m).floor (Held (first_replica (member_list_of [] 1 m rs ss)))) x).slots d

        by_slot : ((m ≡ x) × (g.next_dir ≡ d) × (after ≡ Held (first_replica (member_list_of [] 1 m rs ss)))) ⊎ (after ≡ (mid x).slots d) → IsAllUpTo t r'.all_up_to
        by_slot (inl v) = absurd (child v.1)
        by_slot (inr v) =
            kept g g' x d t r r' w low q (held_here g g' x d t r r' w low y e q z.0 z.1 k.held) (ap up_to_of (sym z.2 ∙ sym v ∙ w.at'))

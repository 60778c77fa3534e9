-- How a skulk goes on at its master, in one step of a cell.
use Rattle.std.proofs.Common.{◌≡◌, ◌≢◌, ℕ, ◌+◌, ◌≤◌, ◌<◌, ◌⊎◌, inl, inr, Bool, true, false, eqb, cond, List, [], ◌∷◌, ◌++◌, map, Option, Some}
use Rattle.std.proofs.Common.{refl, sym, ap, ◌∙◌, subst, arith}
use Rattle.cds_stamps.specs.declared.stamp.Stamp.{Stamp}
use Rattle.cds_stamps.specs.Members.{Member, others_of}
use Rattle.directory.specs.Histories.{Mark}
use Rattle.cell_model.specs.Cells.{Phase, Idle, Gathering, Gathered, Spreading, Replica, Slot, Absent, Gone, Held, House, Copy, Spread}
use Rattle.cell_model.specs.Cells.{Advance, Join, Message, Cell, IsHeld, put}
use Rattle.cell_model.specs.Commands.{Answer, Taken, Complete, Accepted}
use Rattle.cell_model.specs.Sets.{In, IsPart}
use Rattle.cell_model.specs.Turns.{running_skulk_stamp, with_slot, with_marks, to_each, later_up_to, first_replica, epoch_replica, crashed_house, started_house}
use Rattle.cell_model.specs.Steps.{member_list_of}
use Rattle.cell_model.proofs.Lists.{In-append_right, eq_from}
use Rattle.cell_model.proofs.Marks.{stamp_next}
use Rattle.cell_model.proofs.Moves.{Act, accepts, skulks, lone, updates, gives, gathers, turns, gathers_again, spreads, acks_early, acks, completes, advances}
use Rattle.cell_model.proofs.Moves.{copies, keeps, leaves, new_marks, Move, stays, houses, clocks, loses, crashes, starts, acts, founds, crowns, Steps, one, mkdirs, IsUp}
use Rattle.fair_runs.specs.Converging.{IsAllUpTo}
use Rattle.fair_runs.proofs.UpTos.{up_to_of, raised}

-- a question of the second round to this house
pub record Asked (g : Cell) (h d k : ℕ) (t : Stamp) (x : ℕ) (r' : Replica) : Type 0 where
  pub message : Message
  pub copy : Copy
  pub posted : In message g.bag
  pub dir : message.dir ≡ d
  pub receiver : message.receiver ≡ x
  pub sender : message.sender ≡ h
  pub epoch : message.epoch ≡ k
  pub body : message.body ≡ Spread t copy
  pub whole : IsPart r'.history copy.history

-- a message to this house says that the skulk is complete
pub record Told (g : Cell) (h d k : ℕ) (t : Stamp) (x : ℕ) : Type 0 where
  pub message : Message
  pub posted : In message g.bag
  pub dir : message.dir ≡ d
  pub receiver : message.receiver ≡ x
  pub sender : message.sender ≡ h
  pub epoch : message.epoch ≡ k
  pub body : message.body ≡ Advance t

-- a house was heard in the first round: its answer, whose marks the master has then
pub record Hears (g : Cell) (d : ℕ) (t : Stamp) (y : ℕ) (r' : Replica) : Type 0 where
  pub message : Message
  pub copy : Copy
  pub posted : In message g.bag
  pub dir : message.dir ≡ d
  pub sender : message.sender ≡ y
  pub body : message.body ≡ Gathered t copy
  pub part : IsPart copy.history r'.history

-- how the skulk t goes on: nothing of it changes; one more house answered in a round; the last one
-- did, and the second round begins; or the skulk is complete, and each other member learns it
pub data Goes (h d : ℕ) (t : Stamp) (g g' : Cell) (place : Option (ℕ × ℕ)) (answer : Answer) (r r' : Replica) : Type 0 where
  same : r'.phase ≡ r.phase → Goes h d t g g' place answer r r'
  gathered : (a ns : List ℕ) (y : ℕ) → r.phase ≡ Gathering t a → r'.phase ≡ Gathering t (y ∷ a) → answer ≡ Taken ns → Hears g d t y r'
      → Goes h d t g g' place answer r r'
  turned : (a : List ℕ) (y : ℕ) → r.phase ≡ Gathering t a → r'.phase ≡ Spreading t [] → ((x : ℕ) → In x (others_of h r.members) → Asked g' h d r.epoch t x r')
      → ((x : ℕ) → In x (others_of h r.members) → In x (y ∷ a)) → Hears g d t y r' → Goes h d t g g' place answer r r'
  acked : (a ns : List ℕ) (y : ℕ) → r.phase ≡ Spreading t a → r'.phase ≡ Spreading t (y ∷ a) → answer ≡ Taken ns → Goes h d t g g' place answer r r'
  completed : (a ns : List ℕ) → r.phase ≡ Spreading t a → answer ≡ Complete t ns → place ≡ Some (h, d) → IsAllUpTo t r'.all_up_to
      → ((x : ℕ) → In x (others_of h r.members) → Told g' h d r.epoch t x) → Goes h d t g g' place answer r r'

-- the skulk t of d runs at its master h before a step, and after it the master is up, in the same
-- epoch, and runs no other
pub record Watched (g g' : Cell) (h d : ℕ) (t : Stamp) (r r' : Replica) : Type 0 where
  pub at : IsHeld g h d r
  pub at' : IsHeld g' h d r'
  pub epoch : r.epoch ≡ r'.epoch
  pub up : IsUp g' h
  pub run : running_skulk_stamp r.phase ≡ Some t
  pub runs : (u : Stamp) → running_skulk_stamp r'.phase ≡ Some u → u ≡ t
  pub low : t.time ≤ (g.house h).floor
  pub known : g.top d ≢ 0
  pub top : r.epoch ≤ g.top d
  pub next : g.next_dir ≤ d → g.top d ≡ 0
  pub another : ℕ
  pub other : In another (others_of h r.members)
  pub joins : (m : Message) (ms : List Member) (copy : Copy) → In m g.bag → m.dir ≡ d → m.receiver ≡ h → m.body ≡ Join ms copy → m.epoch ≡ r.epoch → ⊥

-- ---- slots

-- the phase and the epoch of what a house holds
abbrev pub phase_in : Slot → Phase
phase_in Absent = Idle
phase_in (Gone e) = Idle
phase_in (Held r) = r.phase

abbrev pub epoch_in : Slot → ℕ
epoch_in Absent = 0
epoch_in (Gone e) = e
epoch_in (Held r) = r.epoch

abbrev history_in : Slot → List Mark
history_in Absent = []
history_in (Gone e) = []
history_in (Held r) = r.history

-- a change of one slot of one house, seen at any house and directory
pub slot_changed : (f : ℕ → House) (k e floor : ℕ) (s : Slot) (h d : ℕ)
    → ((k ≡ h) × (e ≡ d) × ((put f k (with_slot (f k) e floor s) h).slots d ≡ s)) ⊎ ((put f k (with_slot (f k) e floor s) h).slots d ≡ (f h).slots d)
slot_changed f k e floor s h d = by_house (eqb h k) refl
  where
    by_dir : h ≡ k → (b : Bool) → eqb d e ≡ b → ((k ≡ h) × (e ≡ d) × (cond b s ((f k).slots d) ≡ s)) ⊎ (cond b s ((f k).slots d) ≡ (f h).slots d)
    by_dir i true q = inl (sym i, sym (eq_from d e q), refl)
    by_dir i false q = inr (ap (λ (z : ℕ). (f z).slots d) (sym i))

    by_house : (b : Bool) → eqb h k ≡ b
        → ((k ≡ h) × (e ≡ d) × ((cond b (with_slot (f k) e floor s) (f h)).slots d ≡ s)) ⊎ ((cond b (with_slot (f k) e floor s) (f h)).slots d ≡ (f h).slots d)
    by_house true q = by_dir (eq_from h k q) (eqb d e) refl
    by_house false q = inr refl

-- a value of a list is one of its images
pub in_map : {A B : Type 0} (f : A → B) (x : A) (xs : List A) → In x xs → In (f x) (map f xs)
in_map f x [] i = elim i [ ]
in_map f x (y ∷ ys) (inl e) = inl (ap f e)
in_map f x (y ∷ ys) (inr i) = inr (in_map f x ys i)

-- ---- one step

module _ (g g' : Cell) (h d : ℕ) (t : Stamp) (r r' : Replica) (w : Watched g g' h d t r r') where
  -- the slot is as before
  unchanged : (p : Option (ℕ × ℕ)) (a : Answer) → (g'.house h).slots d ≡ (g.house h).slots d → Goes h d t g g' p a r r'
  unchanged p a e = same (ap phase_in (sym w.at' ∙ e ∙ w.at))

  -- a replica that the house holds before the step
  held_here : (x e : ℕ) (q : Replica) → x ≡ h → e ≡ d → (g.house x).slots e ≡ Held q → q ≡ r
  held_here x e q i j at =
      let k : Held q ≡ Held r = sym at ∙ ap (λ (z : ℕ). (g.house z).slots e) i ∙ ap (g.house h).slots j ∙ w.at in cc

  -- the skulk that runs is t
  stamp_is : (u : Stamp) (p : Phase) → running_skulk_stamp p ≡ Some u → r.phase ≡ p → u ≡ t
  stamp_is u p e q = let k : Some u ≡ Some t = sym e ∙ ap running_skulk_stamp (sym q) ∙ w.run in cc

  -- no skulk begins
  not_begun : (x e : ℕ) (u : Stamp) → x ≡ h → r'.phase ≡ Gathering u [] → (g.house x).floor < u.time → ⊥
  not_begun x e u i p lt =
      let k : u ≡ t = w.runs u (ap running_skulk_stamp p) in
      let lt' : (g.house h).floor < t.time = subst (λ (z : ℕ). (g.house z).floor < t.time) i (subst (λ (z : Stamp). (g.house x).floor < z.time) k lt) in
      let low : t.time ≤ (g.house h).floor = w.low in omega arith

  -- a question to each other member
  asked : (m : Message) (u : Stamp) (copy : Copy) (q : Replica) (floor : ℕ) → u ≡ t → q ≡ r → m.receiver ≡ h → m.dir ≡ d → IsPart r'.history copy.history
      → g'.bag ≡ g.bag ++ to_each (others_of m.receiver q.members) m.dir m.receiver q.epoch floor (Spread u copy)
      → (x : ℕ) → In x (others_of h r.members) → Asked g' h d r.epoch t x r'
  asked m u copy q floor is same_r i j all bag x k =
      let k' : In x (others_of m.receiver q.members) =
      subst (λ (z : Replica). In x (others_of m.receiver z.members)) (sym same_r) (subst (λ (z : ℕ). In x (others_of z r.members)) (sym i) k) in
      let z : Message = record { receiver = x; dir = m.dir; sender = m.receiver; epoch = q.epoch; floor = floor; body = Spread u copy } in
      let posted : In z (g.bag ++ to_each (others_of m.receiver q.members) m.dir m.receiver q.epoch floor (Spread u copy)) =
      In-append_right z g.bag _ (in_map
      (λ (y : ℕ). record { receiver = y; dir = m.dir; sender = m.receiver; epoch = q.epoch; floor = floor; body = Spread u copy }) x _ k') in
      record {
        message = z;
        copy = copy;
        posted = subst (λ (b : List Message). In z b) (sym bag) posted;
        dir = j;
        receiver = refl;
        sender = i;
        epoch = ap (λ (y : Replica). y.epoch) same_r;
        body = ap (λ (s : Stamp). Spread s copy) is;
        whole = all;
      }

  -- and a message to each of them that the skulk is complete
  told : (m : Message) (u : Stamp) (q : Replica) (floor : ℕ) → u ≡ t → q ≡ r → m.receiver ≡ h → m.dir ≡ d
      → g'.bag ≡ g.bag ++ to_each (others_of m.receiver q.members) m.dir m.receiver q.epoch floor (Advance u)
      → (x : ℕ) → In x (others_of h r.members) → Told g' h d r.epoch t x
  told m u q floor is same_r i j bag x k =
      let k' : In x (others_of m.receiver q.members) =
      subst (λ (z : Replica). In x (others_of m.receiver z.members)) (sym same_r) (subst (λ (z : ℕ). In x (others_of z r.members)) (sym i) k) in
      let z : Message = record { receiver = x; dir = m.dir; sender = m.receiver; epoch = q.epoch; floor = floor; body = Advance u } in
      let posted : In z (g.bag ++ to_each (others_of m.receiver q.members) m.dir m.receiver q.epoch floor (Advance u)) =
      In-append_right z g.bag _ (in_map
      (λ (y : ℕ). record { receiver = y; dir = m.dir; sender = m.receiver; epoch = q.epoch; floor = floor; body = Advance u }) x _ k') in
      record {
        message = z;
        posted = subst (λ (b : List Message). In z b) (sym bag) posted;
        dir = j;
        receiver = refl;
        sender = i;
        epoch = ap (λ (y : Replica). y.epoch) same_r;
        body = ap (λ (s : Stamp). Advance s) is;
      }

  -- the answer of a house
  heard : (m : Message) (u : Stamp) (copy : Copy) (q : Replica) → u ≡ t → m.dir ≡ d → In m g.bag → m.body ≡ Gathered u copy
      → q.history ++ copy.history ≡ r'.history → Hears g d t m.sender r'
  heard m u copy q is j posted body marks = record {
    message = m;
    copy = copy;
    posted = posted;
    dir = j;
    sender = refl;
    body = body ∙ ap (λ (s : Stamp). Gathered s copy) is;
    part = λ v l. subst (λ (z : List Mark). In v z) marks (In-append_right v q.history copy.history l);
  }

  -- what the master does at this directory
  act_goes : (p : Option (ℕ × ℕ)) (x e floor : ℕ) (s : Slot) (posts : List Message) (a : Answer) (n : List Accepted) → Act g x e floor s posts a n
      → p ≡ Some (x, e) → x ≡ h → e ≡ d → s ≡ Held r' → g'.bag ≡ g.bag ++ posts → Goes h d t g g' p a r r'
  act_goes p x e floor s posts a n (accepts _ _ u q st ns k ok) pe i j at bag =
      same (ap phase_in (sym at) ∙ ap (λ (z : Replica). z.phase) (held_here x e q i j k.held))
  act_goes p x e floor s posts a n (skulks _ _ q u ns k master) pe i j at bag =
      absurd (not_begun x e u i (ap phase_in (sym at)) (stamp_next (g.house x).clock (g.house x).floor (g.house x).node u k.next).0)
  act_goes p x e floor s posts a n (lone _ _ q u k master none) pe i j at bag =
      let same_r = held_here x e q i j k.held in
      let none' : others_of h r.members ≡ [] = subst (λ (z : Replica). others_of h z.members ≡ []) same_r (subst (λ (z : ℕ). others_of z q.members ≡ []) i none) in
      elim (subst (λ (l : List ℕ). In w.another l) none' w.other) [ ]
  act_goes p x e floor s posts a n (updates m marks q ns k) pe i j at bag =
      same (ap phase_in (sym at) ∙ ap (λ (z : Replica). z.phase) (held_here x e q i j k.held))
  act_goes p x e floor s posts a n (gives m u q ns k) pe i j at bag =
      same (ap phase_in (sym at) ∙ ap (λ (z : Replica). z.phase) (held_here x e q i j k.held))
  act_goes p x e floor s posts a n (gathers m u copy b q ns k run) pe i j at bag =
      let run' : r.phase ≡ Gathering u b = ap (λ (z : Replica). z.phase) (sym (held_here x e q i j k.held)) ∙ run in
      let is : u ≡ t = stamp_is u (Gathering u b) refl run' in
      gathered b ns m.sender (run' ∙ ap (λ (z : Stamp). Gathering z b) is)
      (ap phase_in (sym at) ∙ ap (λ (z : Stamp). Gathering z (m.sender ∷ b)) is) refl (heard m u copy q is j k.posted k.is (ap history_in at))
  act_goes p x e floor s posts a n (turns m u copy b q ns k run all) pe i j at bag =
      let same_r = held_here x e q i j k.held in
      let run' : r.phase ≡ Gathering u b = ap (λ (z : Replica). z.phase) (sym same_r) ∙ run in
      let is : u ≡ t = stamp_is u (Gathering u b) refl run' in
      let marks : q.history ++ copy.history ≡ r'.history = ap history_in at in
      turned b m.sender (run' ∙ ap (λ (z : Stamp). Gathering z b) is) (ap phase_in (sym at) ∙ ap (λ (z : Stamp). Spreading z []) is)
      (asked m u _ q _ is same_r i j (λ v l. subst (λ (z : List Mark). In v z) (sym marks) l) bag)
      (λ v l. all v (subst (λ (z : Replica). In v (others_of m.receiver z.members)) (sym same_r)
      (subst (λ (z : ℕ). In v (others_of z r.members)) (sym i) l)))
      (heard m u copy q is j k.posted k.is marks)
  act_goes p x e floor s posts a n (gathers_again m u copy b q ns k run) pe i j at bag =
      same (ap phase_in (sym at) ∙ ap (λ (z : Replica). z.phase) (held_here x e q i j k.held))
  act_goes p x e floor s posts a n (spreads m u copy q ns k) pe i j at bag =
      same (ap phase_in (sym at) ∙ ap (λ (z : Replica). z.phase) (held_here x e q i j k.held))
  act_goes p x e floor s posts a n (acks_early m u b q ns k run) pe i j at bag =
      same (ap phase_in (sym at) ∙ ap (λ (z : Replica). z.phase) (held_here x e q i j k.held))
  act_goes p x e floor s posts a n (acks m u b q ns k run) pe i j at bag =
      let run' : r.phase ≡ Spreading u b = ap (λ (z : Replica). z.phase) (sym (held_here x e q i j k.held)) ∙ run in
      let is : u ≡ t = stamp_is u (Spreading u b) refl run' in
      acked b ns m.sender (run' ∙ ap (λ (z : Stamp). Spreading z b) is) (ap phase_in (sym at) ∙ ap (λ (z : Stamp). Spreading z (m.sender ∷ b)) is) refl
  act_goes p x e floor s posts a n (completes m u b q ns k run all) pe i j at bag =
      let same_r = held_here x e q i j k.held in
      let run' : r.phase ≡ Spreading u b = ap (λ (z : Replica). z.phase) (sym same_r) ∙ run in
      let is : u ≡ t = stamp_is u (Spreading u b) refl run' in
      completed b ns (run' ∙ ap (λ (z : Stamp). Spreading z b) is) (ap (λ (z : Stamp). Complete z ns) is)
      (pe ∙ ap (λ (z : ℕ). Some (z, m.dir)) i ∙ ap (λ (z : ℕ). Some (h, z)) j)
      (subst (λ (o : Option Stamp). IsAllUpTo t o) (ap up_to_of at) (subst (λ (z : Stamp). IsAllUpTo z (later_up_to q.all_up_to u)) is (raised u q.all_up_to)))
      (told m u q _ is same_r i j bag)
  act_goes p x e floor s posts a n (advances m u q ns k) pe i j at bag =
      same (ap phase_in (sym at) ∙ ap (λ (z : Replica). z.phase) (held_here x e q i j k.held))
  act_goes p x e floor s posts a n (copies m ms copy ns k low) pe i j at bag = absurd (w.joins m ms copy k.posted j i k.is (ap epoch_in at ∙ sym w.epoch))
  act_goes p x e floor s posts a n (keeps m ms copy q ns k held le since) pe i j at bag =
      absurd (w.joins m ms copy k.posted j i k.is (ap epoch_in at ∙ sym w.epoch))
  act_goes p x e floor s posts a n (leaves m ns k low) pe i j at bag = absurd (cc)

  -- a change of one slot of one house, in which the master's, if it is that one, is as the step of
  -- an act says
  changed : (p : Option (ℕ × ℕ)) (f : ℕ → House) (x e floor : ℕ) (s : Slot) (a : Answer) → (f h).slots d ≡ (g.house h).slots d
      → (g'.house h).slots d ≡ (put f x (with_slot (f x) e floor s) h).slots d → (x ≡ h → e ≡ d → s ≡ Held r' → Goes h d t g g' p a r r') → Goes h d t g g' p a r r'
  changed p f x e floor s a was now here = by_place (slot_changed f x e floor s h d)
    where
      by_place : ((x ≡ h) × (e ≡ d) × ((put f x (with_slot (f x) e floor s) h).slots d ≡ s))
          ⊎ ((put f x (with_slot (f x) e floor s) h).slots d ≡ (f h).slots d) → Goes h d t g g' p a r r'
      by_place (inl z) = here z.0 z.1 (sym z.2 ∙ sym now ∙ w.at')
      by_place (inr z) = unchanged p a (now ∙ z ∙ was)

-- what a move does
move_goes : (g g' : Cell) (h d : ℕ) (t : Stamp) (r r' : Replica) (p : Option (ℕ × ℕ)) (a : Answer) (n : List Accepted) → Move g p g' a n
    → Watched g g' h d t r r' → Goes h d t g g' p a r r'
move_goes g g' h d t r r' p a n (stays _ q) w = unchanged g g h d t r r' w p a refl
move_goes g g' h d t r r' p a n (houses x node new) w = by_house (eqb h x) w.at'
  where
    by_house : (b : Bool) → (cond b (record { node = node; clock = 0; floor = 0; up = true; slots = λ e. Absent }) (g.house h)).slots d ≡ Held r'
        → Goes h d t g g' p a r r'
    by_house true q = absurd (cc)
    by_house false q = same (ap phase_in (sym q ∙ w.at))
move_goes g g' h d t r r' p a n (clocks x time made) w = by_house (eqb h x) refl w.at'
  where
    by_house : (b : Bool) → eqb h x ≡ b → (cond b (record (g.house x) { clock = time }) (g.house h)).slots d ≡ Held r' → Goes h d t g g' p a r r'
    by_house true i q = same (ap phase_in (sym q ∙ ap (λ (z : ℕ). (g.house z).slots d) (sym (eq_from h x i)) ∙ w.at))
    by_house false i q = same (ap phase_in (sym q ∙ w.at))
move_goes g g' h d t r r' p a n (loses k) w = unchanged g g' h d t r r' w p a refl
move_goes g g' h d t r r' p a n (crashes x up) w = by_house (eqb h x) w.up w.at'
  where
    by_house : (b : Bool) → (cond b (crashed_house (g.house x)) (g.house h)).up ≡ true → (cond b (crashed_house (g.house x)) (g.house h)).slots d ≡ Held r'
        → Goes h d t g g' p a r r'
    by_house true u q = absurd (cc)
    by_house false u q = same (ap phase_in (sym q ∙ w.at))
move_goes g g' h d t r r' p a n (starts x made) w = by_house (eqb h x) refl w.at'
  where
    by_house : (b : Bool) → eqb h x ≡ b → (cond b (started_house (g.house x)) (g.house h)).slots d ≡ Held r' → Goes h d t g g' p a r r'
    by_house true i q = same (ap phase_in (sym q ∙ ap (λ (z : ℕ). (g.house z).slots d) (sym (eq_from h x i)) ∙ w.at))
    by_house false i q = same (ap phase_in (sym q ∙ w.at))
move_goes g g' h d t r r' p a n (acts x e pe floor s posts _ _ act) w =
    changed g g' h d t r r' w p g.house x e floor s a refl refl (λ i j k. act_goes g g' h d t r r' w p x e floor s posts a n act pe i j k refl)
move_goes g g' h d t r r' p a n (founds e m rs ss ns root up none) w =
    changed g g' h d t r r' w p g.house m e (g.house m).floor (Held (first_replica (member_list_of [] 1 m rs ss))) a refl refl
    (λ i j k. absurd (w.known (subst (λ (z : ℕ). g.top z ≡ 0) j none)))
move_goes g g' h d t r r' p a n (crowns e m rs ss q up known held listed since) w =
    changed g g' h d t r r' w p g.house m e (g.house m).floor (Held (epoch_replica (g.top e + 1) (member_list_of (g.present e) (g.top e + 1) m rs ss) q)) a refl
    refl
    (λ i j k. let new : g.top e + 1 ≡ r'.epoch = ap epoch_in k in
    let top : r.epoch ≤ g.top e = subst (λ (z : ℕ). r.epoch ≤ g.top z) (sym j) w.top in
    let old : r.epoch ≡ r'.epoch = w.epoch in absurd (omega arith))

-- what a command does
pub goes : (g g' : Cell) (h d : ℕ) (t : Stamp) (r r' : Replica) (p : Option (ℕ × ℕ)) (a : Answer) (n : List Accepted) → Steps g p g' a n
    → Watched g g' h d t r r' → Goes h d t g g' p a r r'
goes g g' h d t r r' p a n (one _ _ _ move) w = move_goes g g' h d t r r' p a n move w
goes g g' h d t r r' p a n (mkdirs x e m u rs ss q s ns _ k ok up known) w =
    by_parent (slot_changed g.house x e s.time (Held (with_marks q (new_marks q u s))) h d)
  where
    mid : ℕ → House
    mid = put g.house x (with_slot (g.house x) e s.time (Held (with_marks q (new_marks q u s))))

    -- the child has no number yet
    child : (k : ℕ) → g.next_dir ≡ d → ⊥
    child k i = let le : g.next_dir ≤ d = omega (arith, i) in w.known (w.next le)

    by_child : (mid h).slots d ≡ (g.house h).slots d → Goes h d t g g' p a r r'
    by_child was =
        changed g g' h d t r r' w p mid m g.next_dir (mid m).floor (Held (first_replica (member_list_of [] 1 m rs ss))) a was refl
        (λ i j z. absurd (child 0 j))

    by_parent : ((x ≡ h) × (e ≡ d) × ((mid h).slots d ≡ Held (with_marks q (new_marks q u s)))) ⊎ ((mid h).slots d ≡ (g.house h).slots d) → Goes h d t g g' p a r r'
    by_parent (inr was) = by_child was
    by_parent (inl z) = by_slot (slot_changed mid m g.next_dir (mid m).floor (Held (first_replica (member_list_of [] 1 m rs ss))) h d)
      where
        after : Slot
        after = (put mid m (with_slot (mid m) g.next_dir (mid m).floor (Held (first_replica (member_list_of [] 1 m rs ss)))) h).slots d

        by_slot : ((m ≡ h) × (g.next_dir ≡ d) × (after ≡ Held (first_replica (member_list_of [] 1 m rs ss)))) ⊎ (after ≡ (mid h).slots d) → Goes h d t g g' p a r r'
        by_slot (inl y) = absurd (child 0 y.1)
        by_slot (inr y) =
            same (ap phase_in (sym w.at' ∙ y ∙ z.2) ∙ ap (λ (v : Replica). v.phase) (held_here g g' h d t r r' w x e q z.0 z.1 k.held))

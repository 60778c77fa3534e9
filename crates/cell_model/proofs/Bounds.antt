-- From the second round on: what a step keeps of the bound on marks up to t.
use Rattle.std.proofs.Common.{◌≡◌, ℕ, ◌<◌, ◌≤◌, ◌⊎◌, inl, inr, List, Some, sym, subst, arith, ⊎_elim, le_trans}
use Rattle.std.proofs.lemmas.Bool.{cases_lt}
use Rattle.cds_stamps.specs.declared.stamp.Stamp.{Stamp}
use Rattle.cds_stamps.specs.Members.{master_of}
use Rattle.directory.specs.Histories.{Mark, stamp_in}
use Rattle.cell_model.specs.Cells.{Phase, Idle, Replica, Slot, Held, Body, Message}
use Rattle.cell_model.specs.Commands.{Accepted}
use Rattle.cell_model.specs.Sets.{In, IsUpTo}
use Rattle.cell_model.specs.Turns.{running_skulk_stamp}
use Rattle.cell_model.proofs.Lists.{time_up_to, earlier_up_to}
use Rattle.cell_model.proofs.Terms.{Listed}
use Rattle.cell_model.proofs.Facts.{View, IsPosted, Holds, Roll, marks_in, round_of, Reached, Good, Sound, Turn, same, idle, begins, answered}
use Rattle.cell_model.proofs.Facts.{turned, acked, Past, grew, rose, crowned, copied, founded, Came, own, sent, fresh, NewKind, New, Frame}

-- a house that holds a replica and has reached an epoch holds that epoch or a later one
pub reached_held : (e : ℕ) (s : Slot) (r : Replica) → s ≡ Held r → Reached e s → e ≤ r.epoch
reached_held e s r is h = subst (λ (z : Slot). Reached e z) is h

-- and the other way round
pub held_reached : (e : ℕ) (s : Slot) (r : Replica) → s ≡ Held r → e ≤ r.epoch → Reached e s
held_reached e s r is h = subst (λ (z : Slot). Reached e z) (sym is) h

-- a slot holds one replica
pub same_held : (s : Slot) (q r : Replica) → s ≡ Held q → s ≡ Held r → q ≡ r
same_held s q r a b = cc

-- the round of t begins in this step
abbrev pub Begun : Roll → View → ℕ → ℕ → Replica → Stamp → Type 0
Begun roll g x floor r t = (master_of r.members ≡ x) × (roll.home t.node ≡ x) × ((g.house x).floor < t.time) × (t.time ≤ floor)

-- no skulk runs where nothing runs
pub not_idle : (p : Phase) (t : Stamp) → p ≡ Idle → running_skulk_stamp p ≡ Some t → ⊥
not_idle p t e q = let z : running_skulk_stamp Idle ≡ Some t = subst (λ (z : Phase). running_skulk_stamp z ≡ Some t) e q in cc

turn_round : (roll : Roll) (g : View) (x floor : ℕ) (r r' : Replica) (t : Stamp) → Turn roll g x floor r r' → running_skulk_stamp r'.phase ≡ Some t
    → (running_skulk_stamp r.phase ≡ Some t) ⊎ Begun roll g x floor r t
turn_round roll g x floor r r' t (same e) q = inl (subst (λ (z : Phase). running_skulk_stamp z ≡ Some t) e q)
turn_round roll g x floor r r' t (idle e) q = absurd (not_idle _ t e q)
turn_round roll g x floor r r' t (begins u e head node low high _) q =
    let z : Some u ≡ Some t = subst (λ (p : Phase). running_skulk_stamp p ≡ Some t) e q in
    let is : u ≡ t = cc in
    inr (subst (λ (v : Stamp). Begun roll g x floor r v) is (head, node, low, high))
turn_round roll g x floor r r' t (answered u a m copy e e' _ _ _) q =
    inl (subst (λ (p : Phase). running_skulk_stamp p ≡ Some t) (sym e) (subst (λ (p : Phase). running_skulk_stamp p ≡ Some t) e' q))
turn_round roll g x floor r r' t (turned u a m copy e e' _ _ _ _) q =
    inl (subst (λ (p : Phase). running_skulk_stamp p ≡ Some t) (sym e) (subst (λ (p : Phase). running_skulk_stamp p ≡ Some t) e' q))
turn_round roll g x floor r r' t (acked u a m e e' _ _) q =
    inl (subst (λ (p : Phase). running_skulk_stamp p ≡ Some t) (sym e) (subst (λ (p : Phase). running_skulk_stamp p ≡ Some t) e' q))

-- a skulk that runs after a step ran before it, or begins in it
pub past_round : (roll : Roll) (g g' : View) (x floor : ℕ) (r' : Replica) (t : Stamp) → Past roll g g' x floor r' → running_skulk_stamp r'.phase ≡ Some t
    → (r : Replica) × Holds g x r × (r.epoch ≡ r'.epoch) × (r'.members ≡ r.members) × ((running_skulk_stamp r.phase ≡ Some t) ⊎ Begun roll g x floor r t)
past_round roll g g' x floor r' t (grew r h e m _ st) q = (r, h, e, m, turn_round roll g x floor r r' t st q)
past_round roll g g' x floor r' t (rose _ _ _ _ _ _ _ _ _ took) q = absurd (not_idle _ t took.idle q)
past_round roll g g' x floor r' t (crowned _ _ _ _ _ _ _ _ _ i) q = absurd (not_idle _ t i q)
past_round roll g g' x floor r' t (copied _ _ _ _ _ _ took) q = absurd (not_idle _ t took.idle q)
past_round roll g g' x floor r' t (founded _ _ _ _ _ i) q = absurd (not_idle _ t i q)

-- the kind of a new message, at its body
pub kind_at : (roll : Roll) (g g' : View) (new : List Accepted) (m : Message) (b : Body) (n : New roll g g' new m) → m.body ≡ b → NewKind roll g m n.q b
kind_at roll g g' new m b n is = subst (λ (z : Body). NewKind roll g m n.q z) is n.kind

-- the round that a message belongs to, by its body
pub round_at : (m : Message) (b : Body) (t : Stamp) → m.body ≡ b → round_of b ≡ Some t → round_of m.body ≡ Some t
round_at m b t is e = subst (λ (z : Body). round_of z ≡ Some t) (sym is) e

-- the house was a member in this term already
pub was_member : (roll : Roll) (top k e x low s : ℕ) → Good roll top → k ≤ e → e ≤ top → Listed (roll.list e) x s → s ≤ low → low ≤ k → Listed (roll.list k) x s
was_member roll top k e x low s good ke et l sl lk = good.term k e x s ke et (omega arith) l

-- an epoch that is held is at least 1
pub held_low : (roll : Roll) (g : View) (x : ℕ) (r : Replica) → Sound roll g → Holds g x r → 1 ≤ r.epoch
held_low roll g x r s h = ⊎_elim
    (λ (z : r.epoch < 1).
    let l = (s.held x r h).listed in
    let zero_epoch : r.epoch ≡ 0 = omega arith in
    absurd (s.good.none x l.0 (subst (λ (e : ℕ). Listed (roll.list e) x l.0) zero_epoch l.1)))
    (λ z. z)
    (cases_lt r.epoch 1)

-- of the marks up to t, the houses and messages of epoch k and later have those of the list alone
pub record Bounded (roll : Roll) (g : View) (k : ℕ) (t : Stamp) (all : List Mark) : Type 0 where
  pub low : 1 ≤ k
  pub top : k ≤ g.top
  pub members : (y s : ℕ) → Listed (roll.list k) y s → Reached k (g.house y).slot
  pub floors : (x : ℕ) (q : Replica) → Holds g x q → k ≤ q.epoch → t.time ≤ (g.house x).floor
  pub sent : (m : Message) → IsPosted g m → k < m.epoch → t.time ≤ m.floor
  pub rounds : (x : ℕ) (q : Replica) (u : Stamp) → Holds g x q → k ≤ q.epoch → running_skulk_stamp q.phase ≡ Some u → IsUpTo t u
  pub within : (x : ℕ) (q : Replica) (j : Mark) → Holds g x q → k ≤ q.epoch → In j q.history → IsUpTo (stamp_in j) t → In j all
  pub within_m : (m : Message) (j : Mark) → IsPosted g m → k ≤ m.epoch → In j (marks_in m.body) → IsUpTo (stamp_in j) t → In j all

module _ (roll : Roll) (g g' : View) (new : List Accepted) (s : Sound roll g) (s' : Sound roll g') (f : Frame roll g g' new) where
  -- from below k no house comes to k or beyond in its term
  pub not_below : (k : ℕ) (t : Stamp) (all : List Mark) (x : ℕ) (q q' : Replica) → Bounded roll g k t all → Holds g x q → Holds g' x q' → k ≤ q'.epoch
      → ((s : ℕ) → Listed (roll.list q'.epoch) x s → s ≤ q.epoch) → k ≤ q.epoch
  not_below k t all x q q' b h h' le cont = ⊎_elim (λ (low : q.epoch < k).
      let ok = s'.held x q' h' in
      let l = was_member roll g'.top k q'.epoch x q.epoch ok.listed.0 s'.good le ok.top ok.listed.1 (cont ok.listed.0 ok.listed.1) (omega arith) in
      reached_held k _ q h (b.members x ok.listed.0 l)) (λ e. e) (cases_lt q.epoch k)

  -- a marks at epoch k is not taken any more
  pub copied_above : (k : ℕ) (t : Stamp) (all : List Mark) (x : ℕ) (q' : Replica) → Bounded roll g k t all → Holds g' x q' → k ≤ q'.epoch
      → ((e : ℕ) → Reached e (g.house x).slot → e < q'.epoch) → k < q'.epoch
  copied_above k t all x q' b h' le lower = ⊎_elim (λ lt. lt) (λ (ge : q'.epoch ≤ k).
      let ok = s'.held x q' h' in
      let e : q'.epoch ≡ k = omega arith in
      lower k (b.members x ok.listed.0 (subst (λ (z : ℕ). Listed (roll.list z) x ok.listed.0) e ok.listed.1))) (cases_lt k q'.epoch)

  -- the floor of a house that comes to epoch k or later
  floors_past : (k : ℕ) (t : Stamp) (all : List Mark) (x : ℕ) (q' : Replica) → Bounded roll g k t all → Holds g' x q' → k ≤ q'.epoch
      → Past roll g g' x (g'.house x).floor q' → t.time ≤ (g'.house x).floor
  floors_past k t all x q' b h' le (grew q h e _ _ _) = le_trans (b.floors x q h (omega arith)) (f.rises x)
  floors_past k t all x q' b h' le (rose q m ms copy h up _ _ cont _) = le_trans (b.floors x q h (not_below k t all x q q' b h h' le cont)) (f.rises x)
  floors_past k t all x q' b h' le (crowned q h up _ cont _ _ _ _ _) = le_trans (b.floors x q h (not_below k t all x q q' b h h' le cont)) (f.rises x)
  floors_past k t all x q' b h' le (copied m ms copy _ lower _ took) =
      let lt = copied_above k t all x q' b h' le lower in
      le_trans (b.sent m took.posted (omega (arith, took.epoch))) took.raised
  floors_past k t all x q' b h' le (founded none _ _ _ _ _) = absurd (omega (arith, b.low, b.top))

  -- a mark up to t that such a house has is one of them
  within_came : (k : ℕ) (t : Stamp) (all : List Mark) (x : ℕ) (q' : Replica) (j : Mark) → Bounded roll g k t all → Holds g' x q' → k ≤ q'.epoch
      → IsUpTo (stamp_in j) t → Came roll g g' new x (g'.house x).floor q' j → In j all
  within_came k t all x q' j b h' le up (own q h i _ cont _) = b.within x q j h (not_below k t all x q q' b h h' le cont) i up
  within_came k t all x q' j b h' le up (sent m at e i _ _) = b.within_m m j at (omega arith) i up
  within_came k t all x q' j b h' le up (fresh q _ h e low _ _ _ _ _ _ _) =
      absurd (omega (arith, time_up_to (stamp_in j) t up, b.floors x q h (omega arith)))

  -- any step keeps the bound, with the same marks
  pub bounded_kept : (k : ℕ) (t : Stamp) (all : List Mark) → Bounded roll g k t all → Bounded roll g' k t all
  bounded_kept k t all b = record {
    low = b.low;
    top = le_trans b.top f.top;
    members = λ y i l. f.climbs y k (b.members y i l);
    floors = floors;
    sent = λ m at lt. ⊎_elim (λ was. b.sent m was lt)
        (λ (n : New roll g g' new m). let fl = floors m.sender n.q n.held (omega (arith, n.epoch)) in omega (arith, n.floor)) (f.posts m at);
    rounds = λ x q' u h' le run.
        let p = past_round roll g g' x (g'.house x).floor q' u (f.past x q' h') run in
        ⊎_elim (λ was. b.rounds x p.0 u p.1 (omega (arith, p.2)) was)
        (λ (z : Begun roll g x (g'.house x).floor p.0 u). earlier_up_to t u (omega (arith, b.floors x p.0 p.1 (omega (arith, p.2)), z.2))) p.4;
    within = within;
    within_m = λ m j at le i up. ⊎_elim (λ was. b.within_m m j was le i up)
        (λ (n : New roll g g' new m). within m.sender n.q j n.held (omega (arith, n.epoch)) (n.marks j i) up) (f.posts m at);
  }
    where
      floors : (x : ℕ) (q' : Replica) → Holds g' x q' → k ≤ q'.epoch → t.time ≤ (g'.house x).floor
      floors x q' h' le = floors_past k t all x q' b h' le (f.past x q' h')

      within : (x : ℕ) (q' : Replica) (j : Mark) → Holds g' x q' → k ≤ q'.epoch → In j q'.history → IsUpTo (stamp_in j) t → In j all
      within x q' j h' le i up = within_came k t all x q' j b h' le up (f.comes x q' j h' i)

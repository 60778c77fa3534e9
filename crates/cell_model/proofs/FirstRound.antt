-- The first round.
use Rattle.std.proofs.Common.{◌≡◌, ℕ, suc, ◌<◌, ◌≤◌, ◌⊎◌, inl, inr, List, [], Some, refl, sym, ap, ◌∙◌, subst, arith, ⊎_elim, le_refl, le_trans}
use Rattle.std.proofs.lemmas.Bool.{cases_lt}
use Rattle.cds_stamps.specs.declared.stamp.Stamp.{Stamp}
use Rattle.cds_stamps.specs.Members.{Member, master_of}
use Rattle.directory.specs.Histories.{Mark, stamp_in}
use Rattle.cell_model.specs.Cells.{Phase, Idle, Gathering, Spreading, Replica, Slot, Absent, Gone, Held, Copy, Body, Gather, Gathered, Spread}
use Rattle.cell_model.specs.Cells.{SpreadAck, Message}
use Rattle.cell_model.specs.Commands.{Accepted}
use Rattle.cell_model.specs.Sets.{In, IsPart, IsUpTo}
use Rattle.cell_model.specs.Turns.{running_skulk_stamp}
use Rattle.cell_model.proofs.Lists.{time_up_to, earlier_up_to, up_to_itself}
use Rattle.cell_model.proofs.Terms.{Listed, others, In-others, listed-others}
use Rattle.cell_model.proofs.Facts.{View, IsPosted, Holds, Roll, marks_in, round_of, Reached, Sound, Past, grew, rose, crowned, copied, founded}
use Rattle.cell_model.proofs.Facts.{Came, own, sent, fresh, New, Frame}
use Rattle.cell_model.proofs.Bounds.{Begun, not_idle, past_round, held_low, reached_held, held_reached, same_held, kind_at, round_at, was_member, Bounded}
use Rattle.cell_model.proofs.SecondRound.{Answered, SpreadBy, AllSpread, Covers, Spreads, Done}

-- the member answered in the first round of t
abbrev pub GatheredBy : View → Stamp → List ℕ → ℕ → Type 0
GatheredBy g t a y = In y a ⊎ ((m : Message) × (copy : Copy) × IsPosted g m × (m.sender ≡ y) × (m.body ≡ Gathered t copy))

-- no member passed k without it
abbrev pub AllGathered : Roll → View → ℕ → Stamp → List ℕ → Type 0
AllGathered roll g k t a = (y : ℕ) → In y (others (roll.list k)) → Reached (suc k) (g.house y).slot → GatheredBy g t a y

-- the member has the mark, or has answered with it, and its answer is still to come
pub record Waits (roll : Roll) (g : View) (k : ℕ) (t : Stamp) (a : List ℕ) (j : Mark) (y : ℕ) : Type 0 where
  pub other : In y (others (roll.list k))
  pub silent : In y a → ⊥
  pub told : (m : Message) (copy : Copy) → IsPosted g m → m.sender ≡ y → m.body ≡ Gathered t copy → In j copy.history
  pub stay : (Reached (suc k) (g.house y).slot → ⊥) → (r : Replica) × Holds g y r × In j r.history × ((s : ℕ) → Listed (roll.list k) y s → s ≤ r.epoch)

-- a mark is among these, or waits at a member that has not answered yet
abbrev pub Found : Roll → View → ℕ → Stamp → List ℕ → List Mark → Mark → Type 0
Found roll g k t a all j = In j all ⊎ ((y : ℕ) × Waits roll g k t a j y)

-- while the first round runs, each mark up to t of epoch k or later is among those of the master or
-- waits
pub record Covered (roll : Roll) (g : View) (k : ℕ) (t : Stamp) (a : List ℕ) (all : List Mark) : Type 0 where
  pub high : (x : ℕ) (q : Replica) → Holds g x q → k < q.epoch → t.time ≤ (g.house x).floor
  pub sent : (m : Message) → IsPosted g m → k < m.epoch → t.time ≤ m.floor
  pub rounds : (x : ℕ) (q : Replica) (u : Stamp) → Holds g x q → k < q.epoch → running_skulk_stamp q.phase ≡ Some u → IsUpTo t u
  pub within : (x : ℕ) (q : Replica) (j : Mark) → Holds g x q → k ≤ q.epoch → In j q.history → IsUpTo (stamp_in j) t → Found roll g k t a all j
  pub within_m : (m : Message) (j : Mark) → IsPosted g m → k ≤ m.epoch → In j (marks_in m.body) → IsUpTo (stamp_in j) t → Found roll g k t a all j

-- what holds while a master gathers: who answered, that nothing of the second round was posted, and
-- what is covered
pub record Gathers (roll : Roll) (g : View) (h : ℕ) (r : Replica) (t : Stamp) (a : List ℕ) : Type 0 where
  pub heard : (y : ℕ) → In y a → (t.time ≤ (g.house y).floor) × Reached r.epoch (g.house y).slot
  pub no_spread : (m : Message) (copy : Copy) → IsPosted g m → m.body ≡ Spread t copy → ⊥
  pub no_ack : (m : Message) → IsPosted g m → m.body ≡ SpreadAck t → ⊥
  pub sent_by : (y : ℕ) → In y a → Answered g t y
  pub covered : AllGathered roll g r.epoch t a → Covered roll g r.epoch t a r.history

module _ (roll : Roll) (g g' : View) (new : List Accepted) (s : Sound roll g) (s' : Sound roll g') (f : Frame roll g g' new) (h : ℕ) (r r' : Replica)
    (t : Stamp) (a a' : List ℕ) (at_h : Holds g h r) (at_h' : Holds g' h r') (round : running_skulk_stamp r.phase ≡ Some t) (epoch : r.epoch ≡ r'.epoch)
    (grows : IsPart r.history r'.history) (v : Gathers roll g h r t a) (more : (y : ℕ) → In y a' → GatheredBy g t a y) (heard' : (y : ℕ) → In y a'
    → (t.time ≤ (g.house y).floor) × Reached r.epoch (g.house y).slot) (gained : (j : Mark) (y : ℕ) → Waits roll g r.epoch t a j y
    → In j r'.history ⊎ (In y a' → ⊥)) where
  -- the member that posts an answer of t in this step holds epoch k
  new_answer : (m : Message) (copy : Copy) (n : New roll g g' new m) → m.body ≡ Gathered t copy
      → (q : Replica) × Holds g m.sender q × (q.epoch ≡ r.epoch) × IsPart q.history copy.history × (m.epoch ≡ r.epoch) × (t.time ≤ m.floor)
  new_answer m copy n is =
      let e = kind_at roll g g' new m (Gathered t copy) n is in
      let of_t = round_at e.0.to (Gather t) t e.0.is refl in
      let k = (s.held h r at_h).own t round e.0.to e.0.posted of_t in
      let low = (s.messages e.0.to e.0.posted).round t of_t in
      (e.0.held, e.0.holds, e.0.holds_epoch ∙ (sym e.0.epoch ∙ k), e.1, sym e.0.epoch ∙ k, le_trans low.0 e.0.floor)

  all_back : AllGathered roll g' r.epoch t a' → AllGathered roll g r.epoch t a
  all_back p y o up = ⊎_elim (λ i. more y i)
      (λ (w : (m : Message) × (copy : Copy) × IsPosted g' m × (m.sender ≡ y) × (m.body ≡ Gathered t copy)). ⊎_elim (λ was. inr (w.0, w.1, was, w.3, w.4))
      (λ (n : New roll g g' new w.0).
      let e = new_answer w.0 w.1 n w.4 in
      let low = reached_held (suc r.epoch) _ e.0 (subst (λ (z : ℕ). Holds g z e.0) w.3 e.1) up in
      absurd (omega (arith, low, e.2)))
      (f.posts w.0 w.2))
      (p y o (f.climbs y (suc r.epoch) up))

  is_head : master_of (roll.list r.epoch) ≡ h
  is_head = let ok = s.held h r at_h in ap master_of (sym ok.members) ∙ (ok.phase t round).0

  here_low : 1 ≤ r.epoch
  here_low = held_low roll g h r s at_h

  here_top : r.epoch ≤ g.top
  here_top = (s.held h r at_h).top

  -- what the member that waits holds after the step
  stay_past : (j : Mark) (y b : ℕ) (q q' : Replica) → Listed (roll.list r.epoch) y b → Holds g y q → In j q.history → b ≤ q.epoch → Holds g' y q'
      → q'.epoch ≤ r.epoch → Past roll g g' y (g'.house y).floor q' → In j q'.history × (q.epoch ≤ q'.epoch)
  stay_past j y b q q' l hq i le h' top (grew p hp e _ sub _) = let same = same_held _ q p hq hp in
      (sub j (subst (λ (z : Replica). In j z.history) same i), omega (arith, ap (λ (z : Replica). z.epoch) same))
  stay_past j y b q q' l hq i le h' top (rose p _ _ _ hp lt sub _ _ _) = let same = same_held _ q p hq hp in
      (sub j (subst (λ (z : Replica). In j z.history) same i), omega (arith, lt, ap (λ (z : Replica). z.epoch) same))
  stay_past j y b q q' l hq i le h' top (crowned p hp lt sub _ _ _ _ _ _) = let same = same_held _ q p hq hp in
      (sub j (subst (λ (z : Replica). In j z.history) same i), omega (arith, lt, ap (λ (z : Replica). z.epoch) same))
  stay_past j y b q q' l hq i le h' top (copied m ms copy _ lower out took) =
      let lt = lower q.epoch (held_reached q.epoch _ q hq (le_refl _)) in
      let l' = s'.good.term q'.epoch r.epoch y b top (le_trans (s.held h r at_h).top f.top) (omega arith) l in
      absurd (omega (arith, out q b hq l', le))
  stay_past j y b q q' l hq i le h' top (founded none _ _ _ _ _) = absurd (omega (arith, none, here_low, here_top))

  -- a member that waits waits on, unless its answer is taken
  waits_kept : (j : Mark) (y : ℕ) → Waits roll g r.epoch t a j y → (In y a' → ⊥) → Waits roll g' r.epoch t a' j y
  waits_kept j y w silent' = record {
    other = w.other;
    silent = silent';
    told = λ m copy at by is. ⊎_elim (λ was. w.told m copy was by is)
        (λ (n : New roll g g' new m).
        let e = new_answer m copy n is in
        let hq = subst (λ (z : ℕ). Holds g z e.0) by e.1 in
        let here = w.stay (λ up. let low = reached_held (suc r.epoch) _ e.0 hq up in omega (arith, low, e.2)) in
        e.3 j (subst (λ (z : Replica). In j z.history) (same_held _ here.0 e.0 here.1 hq) here.2))
        (f.posts m at);
    stay = λ low'.
        let here = w.stay (λ up. low' (f.climbs y (suc r.epoch) up)) in
        let b = listed-others y (roll.list r.epoch) w.other in
        let le = here.3 b.0 b.1 in
        ⊎_elim
        (λ (n : (q' : Replica) × Holds g' y q').
        let top : n.0.epoch ≤ r.epoch =
        ⊎_elim (λ (lt : r.epoch < n.0.epoch). absurd (low' (held_reached (suc r.epoch) _ n.0 n.1 lt))) (λ z. z) (cases_lt r.epoch n.0.epoch) in
        let p = stay_past j y b.0 here.0 n.0 b.1 here.1 here.2 le n.1 top (f.past y n.0 n.1) in
        (n.0, n.1, p.0, λ c lc. le_trans (here.3 c lc) p.1))
        (λ (n : (e : ℕ) × ((g'.house y).slot ≡ Gone e)).
        let climbed = subst (λ (z : Slot). Reached (here.0).epoch z) n.1
        (f.climbs y (here.0).epoch (held_reached (here.0).epoch _ here.0 here.1 (le_refl _))) in
        let top : n.0 ≤ r.epoch =
        ⊎_elim (λ (lt : r.epoch < n.0). absurd (low' (subst (λ (z : Slot). Reached (suc r.epoch) z) (sym n.1) lt))) (λ z. z) (cases_lt r.epoch n.0) in
        absurd ((s'.gone y n.0 n.1).2 b.0 (s'.good.term n.0 r.epoch y b.0 top (le_trans (s.held h r at_h).top f.top) (omega (arith, le, climbed)) b.1)))
        (f.next y here.0 here.1);
  }

  -- what is covered stays covered
  found_kept : (j : Mark) → Found roll g r.epoch t a r.history j → Found roll g' r.epoch t a' r'.history j
  found_kept j (inl i) = inl (grows j i)
  found_kept j (inr w) = ⊎_elim (λ i. inl i) (λ silent'. inr (w.0, waits_kept j w.0 w.1 silent')) (gained j w.0 w.1)

  -- a house that comes to epoch k or beyond from below, in its term
  enters : (x : ℕ) (q q' : Replica) (j : Mark) → Holds g x q → q.epoch < r.epoch → Holds g' x q' → r.epoch ≤ q'.epoch → In j q'.history
      → ((b : ℕ) → Listed (roll.list q'.epoch) x b → b ≤ q.epoch) → Waits roll g' r.epoch t a' j x
  enters x q q' j hq low h' le i cont =
      let ok = s'.held x q' h' in
      let l = was_member roll g'.top r.epoch q'.epoch x q.epoch ok.listed.0 s'.good le ok.top ok.listed.1 (cont ok.listed.0 ok.listed.1) (omega arith) in
      let below : Reached r.epoch (g.house x).slot → ⊥ = λ up. grind arith in
      record {
        other = ⊎_elim (λ (e : x ≡ master_of (roll.list r.epoch)). let hh = is_head in
            absurd (grind arith)) (λ o. o) (In-others x ok.listed.0 (roll.list r.epoch) l);
        silent = λ z. below (heard' x z).1;
        told = λ m copy at by is. ⊎_elim
            (λ was. let k = (s.held h r at_h).own t round m was (round_at m (Gathered t copy) t is refl) in
            absurd (below (subst (λ (z : ℕ). Reached r.epoch (g.house z).slot)
            by (subst (λ (d : ℕ). Reached d (g.house m.sender).slot) k (s.messages m was).sent))))
            (λ (n : New roll g g' new m). let e = new_answer m copy n is in
            absurd (below (held_reached r.epoch _ e.0 (subst (λ (z : ℕ). Holds g z e.0) by e.1) (omega (arith, e.2)))))
            (f.posts m at);
        stay = λ _. (q', h', i, λ b lb. le_trans (s'.good.order r.epoch x b (le_trans (s.held h r at_h).top f.top) lb) le);
      }

  -- a house that passed k has a floor of at least the time of t
  high_past : AllGathered roll g' r.epoch t a' → Covered roll g r.epoch t a r.history → (x : ℕ) (q' : Replica) → Holds g' x q' → r.epoch < q'.epoch
      → Past roll g g' x (g'.house x).floor q' → t.time ≤ (g'.house x).floor
  high_past p c x q' h' lt (grew q hq e _ _ _) = le_trans (c.high x q hq (omega arith)) (f.rises x)
  high_past p c x q' h' lt (rose q m ms copy hq _ _ _ _ took) = le_trans (c.sent m took.posted (omega (arith, took.epoch))) took.raised
  high_past p c x q' h' lt (copied m ms copy _ _ _ took) = le_trans (c.sent m took.posted (omega (arith, took.epoch))) took.raised
  high_past p c x q' h' lt (founded none _ _ _ _ _) = absurd (omega (arith, none, here_low, here_top))
  high_past p c x q' h' lt (crowned q hq _ _ cont _ _ _ _ _) = ⊎_elim
      (λ (above : r.epoch < q.epoch). le_trans (c.high x q hq above) (f.rises x))
      (λ (le : q.epoch ≤ r.epoch).
      let ok = s'.held x q' h' in
      let l = was_member roll g'.top r.epoch q'.epoch x q.epoch ok.listed.0 s'.good (omega arith) ok.top ok.listed.1 (cont ok.listed.0 ok.listed.1) le in
      ⊎_elim
      (λ (e : x ≡ master_of (roll.list r.epoch)). let hh = is_head in absurd (grind arith))
      (λ o. ⊎_elim
      (λ i. le_trans (heard' x i).0 (f.rises x))
      (λ (w : (m : Message) × (copy : Copy) × IsPosted g' m × (m.sender ≡ x) × (m.body ≡ Gathered t copy)).
      let law = s'.messages w.0 w.2 in
      le_trans (law.round t (round_at w.0 (Gathered t w.1) t w.4 refl)).0 (subst (λ (z : ℕ). (w.0).floor ≤ (g'.house z).floor) w.3 law.floor))
      (p x o (held_reached (suc r.epoch) _ q' h' lt)))
      (In-others x ok.listed.0 (roll.list r.epoch) l))
      (cases_lt r.epoch q.epoch)

  -- a member that accepts an update has not answered yet
  waits_fresh : (x : ℕ) (q' : Replica) (j : Mark) → Holds g' x q' → r.epoch ≤ q'.epoch → In j q'.history → IsUpTo (stamp_in j) t
      → (g.house x).floor < (stamp_in j).time → ((m : Message) (t : Stamp) → IsPosted g' m → round_of m.body ≡ Some t → IsPosted g m)
      → In x (others (roll.list r.epoch)) → Waits roll g' r.epoch t a' j x
  waits_fresh x q' j h' le i up low quiet o = record {
    other = o;
    silent = λ z. omega (arith, (heard' x z).0, time_up_to (stamp_in j) t up);
    told = λ m copy at by is.
        let of_t = round_at m (Gathered t copy) t is refl in
        let law = s.messages m (quiet m t at of_t) in
        absurd (omega (arith, (law.round t of_t).0, subst (λ (z : ℕ). m.floor ≤ (g.house z).floor) by law.floor, time_up_to (stamp_in j) t up));
    stay = λ _. (q', h', i, λ b lb. le_trans (s'.good.order r.epoch x b (le_trans here_top f.top) lb) le);
  }

  -- a mark up to t at epoch k or later is covered
  found_came : Covered roll g r.epoch t a r.history → (x : ℕ) (q' : Replica) (j : Mark) → Holds g' x q' → r.epoch ≤ q'.epoch → In j q'.history
      → IsUpTo (stamp_in j) t → Came roll g g' new x (g'.house x).floor q' j → Found roll g' r.epoch t a' r'.history j
  found_came c x q' j h' le i up (sent m at e im _ _) = found_kept j (c.within_m m j at (omega arith) im up)
  found_came c x q' j h' le i up (own q hq iq _ cont _) = ⊎_elim
      (λ (low : q.epoch < r.epoch). inr (x, enters x q q' j hq low h' le i cont))
      (λ ge. found_kept j (c.within x q j hq ge iq up))
      (cases_lt q.epoch r.epoch)
  found_came c x q' j h' le i up (fresh q a hq e low _ _ _ _ _ _ quiet) = ⊎_elim
      (λ (above : r.epoch < q.epoch). absurd (omega (arith, time_up_to (stamp_in j) t up, c.high x q hq above)))
      (λ (ge : q.epoch ≤ r.epoch).
      let same : q.epoch ≡ r.epoch = omega arith in
      let l = (s.held x q hq).listed in
      ⊎_elim
      (λ (e : x ≡ master_of (roll.list r.epoch)).
      absurd (omega (
        arith,
        time_up_to (stamp_in j) t up,
        ((s.held h r at_h).phase t round).2,
        subst (λ (z : ℕ). (g.house z).floor < (stamp_in j).time) (e ∙ is_head) low,
      )))
      (λ o. inr (x, waits_fresh x q' j h' le i up low quiet o))
      (In-others x l.0 (roll.list r.epoch) (subst (λ (z : ℕ). Listed (roll.list z) x l.0) same l.1)))
      (cases_lt r.epoch q.epoch)

  -- any step keeps what the answers and the waiting members cover
  pub covered_kept : AllGathered roll g' r.epoch t a' → Covered roll g' r.epoch t a' r'.history
  covered_kept p = record {
    high = high;
    sent = λ m at lt. ⊎_elim (λ was. c.sent m was lt) (λ (n : New roll g g' new m). let z = high m.sender n.q n.held (omega (arith, n.epoch)) in
        omega (arith, n.floor)) (f.posts m at);
    rounds = λ x q' u h' lt run.
        let p = past_round roll g g' x (g'.house x).floor q' u (f.past x q' h') run in
        ⊎_elim (λ was. c.rounds x p.0 u p.1 (omega (arith, p.2)) was)
        (λ (z : Begun roll g x (g'.house x).floor p.0 u). earlier_up_to t u (omega (arith, c.high x p.0 p.1 (omega (arith, p.2)), z.2))) p.4;
    within = within;
    within_m = λ m j at le i up. ⊎_elim (λ was. found_kept j (c.within_m m j was le i up))
        (λ (n : New roll g g' new m). within m.sender n.q j n.held (omega (arith, n.epoch)) (n.marks j i) up) (f.posts m at);
  }
    where
      c : Covered roll g r.epoch t a r.history
      c = v.covered (all_back p)

      high : (x : ℕ) (q' : Replica) → Holds g' x q' → r.epoch < q'.epoch → t.time ≤ (g'.house x).floor
      high x q' h' lt = high_past p c x q' h' lt (f.past x q' h')

      within : (x : ℕ) (q' : Replica) (j : Mark) → Holds g' x q' → r.epoch ≤ q'.epoch → In j q'.history → IsUpTo (stamp_in j) t
          → Found roll g' r.epoch t a' r'.history j
      within x q' j h' le i up = found_came c x q' j h' le i up (f.comes x q' j h' i)

  -- who posts a spread of t is this house, and in the second round
  new_spread : (m : Message) (copy : Copy) (n : New roll g g' new m) → m.body ≡ Spread t copy → (r'.phase ≡ Spreading t []) × IsPart r'.history copy.history
  new_spread m copy n is =
      let e = kind_at roll g g' new m (Spread t copy) n is in
      let by : m.sender ≡ h = sym ((s'.held m.sender n.q n.held).phase t (subst (λ (z : Phase). running_skulk_stamp z ≡ Some t) (sym e.0) refl)).1
      ∙ ((s.held h r at_h).phase t round).1 in
      let same : n.q ≡ r' = cc in
      (cc, rw same at e.1)

  no_spread_kept : (r'.phase ≡ Spreading t [] → ⊥) → (m : Message) (copy : Copy) → IsPosted g' m → m.body ≡ Spread t copy → ⊥
  no_spread_kept still m copy at is = ⊎_elim (λ was. v.no_spread m copy was is) (λ n. still (new_spread m copy n is).0) (f.posts m at)

  no_ack_kept : (m : Message) → IsPosted g' m → m.body ≡ SpreadAck t → ⊥
  no_ack_kept m at is = ⊎_elim (λ was. v.no_ack m was is) (λ n. let e = kind_at roll g g' new m (SpreadAck t) n is in
      v.no_spread e.1.to e.0 e.1.posted e.1.is) (f.posts m at)

  answered_kept : (y : ℕ) → In y a' → Answered g' t y
  answered_kept y i = ⊎_elim (λ z. let w = v.sent_by y z in (w.0, w.1, f.stays w.0 w.2, w.3, w.4))
      (λ (w : (m : Message) × (copy : Copy) × IsPosted g m × (m.sender ≡ y) × (m.body ≡ Gathered t copy)). (w.0, w.1, f.stays w.0 w.2, w.3, w.4))
      (more y i)

  -- any step keeps what holds while the first round runs
  pub gathers_kept : (r'.phase ≡ Spreading t [] → ⊥) → Gathers roll g' h r' t a'
  gathers_kept still =
      let P : ℕ → Type 0 = λ e. ((y : ℕ) → In y a' → (t.time ≤ (g'.house y).floor) × Reached e (g'.house y).slot)
      × (AllGathered roll g' e t a' → Covered roll g' e t a' r'.history) in
      let both = subst P epoch ((λ y i. let z = heard' y i in (le_trans z.0 (f.rises y), f.climbs y r.epoch z.1)), covered_kept) in
      record { heard = both.0; no_spread = no_spread_kept still; no_ack = no_ack_kept; sent_by = answered_kept; covered = both.1 }

  -- all have answered
  pub spreads_begin : running_skulk_stamp r'.phase ≡ Some t → ((y : ℕ) → In y (others r.members) → In y a') → Spreads roll g' h r' t []
  spreads_begin now all =
      let P : ℕ → Type 0 = λ e. Bounded roll g' e t r'.history × (AllSpread roll g' e t [] → Covers g' e t [] r'.history)
      × ((y : ℕ) → In y (others (roll.list e)) → Answered g' t y) in
      let both = subst P epoch (bounded, covers, λ y o. answered_kept y (everyone y o)) in
      record {
        bounded = both.0;
        heard = λ y i. elim i [ ];
        answers = both.2;
        told = λ m copy j at is i up. ⊎_elim (λ was. absurd (v.no_spread m copy was is)) (λ n. (new_spread m copy n is).1 j i) (f.posts m at);
        covers = both.1;
      }
    where
      everyone : (y : ℕ) → In y (others (roll.list r.epoch)) → In y a'
      everyone y o = all y (subst (λ (z : List Member). In y (others z)) (sym (s.held h r at_h).members) o)

      c : Covered roll g' r.epoch t a' r'.history
      c = covered_kept (λ y o _. inl (everyone y o))

      master_at : (x : ℕ) → x ≡ master_of (roll.list r.epoch) → x ≡ h
      master_at x e = e ∙ is_head

      bounded : Bounded roll g' r.epoch t r'.history
      bounded = record {
        low = here_low;
        top = le_trans here_top f.top;
        members = λ y b l. ⊎_elim
            (λ e. subst (λ (z : ℕ). Reached r.epoch (g'.house z).slot) (sym (master_at y e)) (held_reached r.epoch _ r' at_h' (omega arith)))
            (λ o. f.climbs y r.epoch (heard' y (everyone y o)).1)
            (In-others y b (roll.list r.epoch) l);
        floors = λ x q hq le. ⊎_elim
            (λ (lt : r.epoch < q.epoch). c.high x q hq lt)
            (λ (ge : q.epoch ≤ r.epoch).
            let e : q.epoch ≡ r.epoch = omega arith in
            let l = (s'.held x q hq).listed in
            ⊎_elim
            (λ w. subst (λ (z : ℕ). t.time ≤ (g'.house z).floor) (sym (master_at x w)) (le_trans ((s.held h r at_h).phase t round).2 (f.rises h)))
            (λ o. le_trans (heard' x (everyone x o)).0 (f.rises x))
            (In-others x l.0 (roll.list r.epoch) (subst (λ (z : ℕ). Listed (roll.list z) x l.0) e l.1)))
            (cases_lt r.epoch q.epoch);
        sent = c.sent;
        rounds = λ x q u hq le run. ⊎_elim
            (λ (lt : r.epoch < q.epoch). c.rounds x q u hq lt run)
            (λ (ge : q.epoch ≤ r.epoch).
            let e : q.epoch ≡ r.epoch = omega arith in
            let ok = s'.held x q hq in
            let here : x ≡ h = sym (ok.phase u run).0 ∙ ap master_of (ok.members ∙ ap roll.list e) ∙ is_head in
            let same_q : q ≡ r' = same_held _ q r' (subst (λ (z : ℕ). Holds g' z q) here hq) at_h' in
            let runs : Some t ≡ Some u = sym now ∙ ap (λ (z : Replica). running_skulk_stamp z.phase) (sym same_q) ∙ run in
            let tu : t ≡ u = cc in
            subst (λ (z : Stamp). IsUpTo t z) tu (up_to_itself t))
            (cases_lt r.epoch q.epoch);
        within = λ x q j hq le i up. ⊎_elim (λ z. z) (λ (w : (y : ℕ) × Waits roll g' r.epoch t a' j y). absurd (w.1.silent (everyone w.0 w.1.other)))
            (c.within x q j hq le i up);
        within_m = λ m j at le i up. ⊎_elim (λ z. z) (λ (w : (y : ℕ) × Waits roll g' r.epoch t a' j y). absurd (w.1.silent (everyone w.0 w.1.other)))
            (c.within_m m j at le i up);
      }

      nobody : (y : ℕ) → SpreadBy g' t [] y → ⊥
      nobody y (inl i) = i
      nobody y (inr w) = no_ack_kept w.0 w.1 w.3

      none_above : AllSpread roll g' r.epoch t [] → suc r.epoch ≤ g'.top → ⊥
      none_above p le =
          let b = s'.good.chain r.epoch (held_low roll g h r s at_h) le in
          let up = s'.heads r.epoch le in
          ⊎_elim
          (λ e. let low = reached_held (suc r.epoch) _ r' at_h' (subst (λ (z : ℕ). Reached (suc r.epoch) (g'.house z).slot) (master_at _ e) up) in
          omega (arith, low, epoch))
          (λ o. nobody _ (p _ o up))
          (In-others _ b.0 (roll.list r.epoch) b.1)

      covers : AllSpread roll g' r.epoch t [] → Covers g' r.epoch t [] r'.history
      covers p = record {
        took = λ y q j w. absurd (nobody y w);
        later = λ x q j hq lt. absurd (none_above p (le_trans lt (s'.held x q hq).top));
        joins = λ m ms copy j at is lt. absurd (none_above p (le_trans lt (s'.messages m at).top));
      }

-- a house that has reached an epoch holds it or a later one, or is gone at it or a later one
pub slot_cases : (k : ℕ) (s : Slot) → Reached k s → ((q : Replica) × (s ≡ Held q) × (k ≤ q.epoch)) ⊎ ((e : ℕ) × (s ≡ Gone e) × (k ≤ e))
slot_cases k Absent up = elim up [ ]
slot_cases k (Gone e) up = inr (e, refl, up)
slot_cases k (Held q) up = inl (q, refl, up)

-- where no member has passed k, k is the last epoch
pub none_above : (roll : Roll) (g : View) (h : ℕ) (r : Replica) → Sound roll g → Holds g h r → master_of r.members ≡ h
    → ((y : ℕ) → In y (others (roll.list r.epoch)) → Reached (suc r.epoch) (g.house y).slot → ⊥) → suc r.epoch ≤ g.top → ⊥
none_above roll g h r s at_h head nobody le =
    let b = s.good.chain r.epoch (held_low roll g h r s at_h) le in
    let up = s.heads r.epoch le in
    ⊎_elim
    (λ e. let is = e ∙ (ap master_of (sym (s.held h r at_h).members) ∙ head) in
    let low = reached_held (suc r.epoch) _ r at_h (subst (λ (z : ℕ). Reached (suc r.epoch) (g.house z).slot) is up) in omega (arith, low))
    (λ o. nobody _ o up)
    (In-others _ b.0 (roll.list r.epoch) b.1)

pub covered_begin : (roll : Roll) (g : View) (h : ℕ) (r : Replica) (t : Stamp) → Sound roll g → Holds g h r → master_of r.members ≡ h
    → ((m : Message) (copy : Copy) → IsPosted g m → m.body ≡ Gathered t copy → ⊥)
    → ((y : ℕ) → In y (others (roll.list r.epoch)) → Reached (suc r.epoch) (g.house y).slot → ⊥) → Covered roll g r.epoch t [] r.history
covered_begin roll g h r t s at_h head none nobody = record {
  high = λ x q hq lt. absurd (last (le_trans lt (s.held x q hq).top));
  sent = λ m at lt. absurd (last (le_trans lt (s.messages m at).top));
  rounds = λ x q u hq lt. absurd (last (le_trans lt (s.held x q hq).top));
  within = λ x q j hq le i up. at x q j hq le i;
  within_m = λ m j im le i up.
      let l = s.messages m im in
      let same : m.epoch ≡ r.epoch =
      ⊎_elim (λ (lt : r.epoch < m.epoch). absurd (last (le_trans lt l.top))) (λ (ge : m.epoch ≤ r.epoch). omega arith) (cases_lt r.epoch m.epoch) in
      ⊎_elim
      (λ (w : (q : Replica) × ((g.house m.sender).slot ≡ Held q) × (m.epoch ≤ q.epoch)).
      let e : (w.0).epoch ≡ m.epoch =
      ⊎_elim (λ (lt : r.epoch < (w.0).epoch). absurd (last (le_trans lt (s.held m.sender w.0 w.1).top))) (λ (ge : (w.0).epoch ≤ r.epoch). omega (arith, w.2))
      (cases_lt r.epoch (w.0).epoch) in
      at m.sender w.0 j w.1 (omega (arith, e)) (l.held w.0 w.1 e j i))
      (λ (w : (e : ℕ) × ((g.house m.sender).slot ≡ Gone e) × (m.epoch ≤ e)).
      absurd (gone_not m.sender w.0 w.1 (omega (arith, w.2)) l.by.0 (subst (λ (z : ℕ). Listed (roll.list z) m.sender l.by.0) same l.by.1)))
      (slot_cases m.epoch (g.house m.sender).slot l.sent);
}
  where
    last : suc r.epoch ≤ g.top → ⊥
    last le = none_above roll g h r s at_h head nobody le

    is_head : master_of (roll.list r.epoch) ≡ h
    is_head = ap master_of (sym (s.held h r at_h).members) ∙ head

    at : (x : ℕ) (q : Replica) (j : Mark) → Holds g x q → r.epoch ≤ q.epoch → In j q.history → Found roll g r.epoch t [] r.history j
    at x q j hq le i =
        let ok = s.held x q hq in
        let e : q.epoch ≡ r.epoch =
        ⊎_elim (λ (lt : r.epoch < q.epoch). absurd (last (le_trans lt ok.top))) (λ (ge : q.epoch ≤ r.epoch). omega arith) (cases_lt r.epoch q.epoch) in
        ⊎_elim
        (λ w. inl (subst (λ (z : Replica). In j z.history) (same_held _ q r (subst (λ (z : ℕ). Holds g z q) (w ∙ is_head) hq) at_h) i))
        (λ o. inr (
          x,
          record {
            other = o;
            silent = λ z. z;
            told = λ m copy im by is. absurd (none m copy im is);
            stay = λ _. (q, hq, i, λ b lb. le_trans (s.good.order r.epoch x b (s.held h r at_h).top lb) le);
          },
        ))
        (In-others x ok.listed.0 (roll.list r.epoch) (subst (λ (z : ℕ). Listed (roll.list z) x ok.listed.0) e ok.listed.1))

    gone_not : (x e : ℕ) → (g.house x).slot ≡ Gone e → r.epoch ≤ e → (b : ℕ) → Listed (roll.list r.epoch) x b → ⊥
    gone_not x e is le b l =
        let out = s.gone x e is in
        ⊎_elim
        (λ (lt : r.epoch < e). last (le_trans lt out.1))
        (λ (ge : e ≤ r.epoch). let same : r.epoch ≡ e = omega arith in out.2 b (subst (λ (z : ℕ). Listed (roll.list z) x b) same l))
        (cases_lt r.epoch e)

-- the round begins: no message of it is there yet
pub gathers_begin : (roll : Roll) (g g' : View) (new : List Accepted) (h : ℕ) (r' : Replica) (t : Stamp) → Sound roll g → Sound roll g'
    → Frame roll g g' new → Holds g' h r' → roll.home t.node ≡ h → (g.house h).floor < t.time → r'.phase ≡ Gathering t [] → Gathers roll g' h r' t []
gathers_begin roll g g' new h r' t s s' f at_h' node low phase = record {
  heard = λ y i. elim i [ ];
  sent_by = λ y i. elim i [ ];
  no_spread = no_spread;
  no_ack = λ m at is. ⊎_elim (λ was. old m (SpreadAck t) was is refl) (λ (n : New roll g g' new m). let e = kind_at roll g g' new m (SpreadAck t) n is in
      old e.1.to (Spread t e.0) e.1.posted e.1.is refl) (f.posts m at);
  covered = λ p. covered_begin roll g' h r' t s' at_h' ok.0 none
      (λ y o up. ⊎_elim (λ i. elim i [ ]) (λ (w : (m : Message) × (copy : Copy) × IsPosted g' m × (m.sender ≡ y) × (m.body ≡ Gathered t copy)).
      none w.0 w.1 w.2 w.4) (p y o up));
}
  where
    ok : (master_of r'.members ≡ h) × (roll.home t.node ≡ h) × (t.time ≤ (g'.house h).floor)
    ok = (s'.held h r' at_h').phase t (subst (λ (z : Phase). running_skulk_stamp z ≡ Some t) (sym phase) refl)

    old : (m : Message) (b : Body) → IsPosted g m → m.body ≡ b → round_of b ≡ Some t → ⊥
    old m b at is e = let l = (s.messages m at).round t (round_at m b t is e) in omega (arith, low, subst (λ (z : ℕ). t.time ≤ (g.house z).floor) node l.1)

    none : (m : Message) (copy : Copy) → IsPosted g' m → m.body ≡ Gathered t copy → ⊥
    none m copy at is = ⊎_elim (λ was. old m (Gathered t copy) was is refl) (λ (n : New roll g g' new m). let e =
        kind_at roll g g' new m (Gathered t copy) n is in old e.0.to (Gather t) e.0.posted e.0.is refl) (f.posts m at)

    no_spread : (m : Message) (copy : Copy) → IsPosted g' m → m.body ≡ Spread t copy → ⊥
    no_spread m copy at is = ⊎_elim (λ was. old m (Spread t copy) was is refl)
        (λ (n : New roll g g' new m).
        let e = kind_at roll g g' new m (Spread t copy) n is in
        let by : m.sender ≡ h = sym ((s'.held m.sender n.q n.held).phase t (subst (λ (z : Phase). running_skulk_stamp z ≡ Some t) (sym e.0) refl)).1 ∙ node in
        let same : n.q ≡ r' = cc in
        let turned : r'.phase ≡ Spreading t [] = subst (λ (z : Replica). z.phase ≡ Spreading t []) same e.0 in
        absurd (cc))
        (f.posts m at)

-- a master that is alone completes at once
pub lone_done : (roll : Roll) (g g' : View) (new : List Accepted) (h : ℕ) (r' : Replica) (t : Stamp) → Sound roll g → Sound roll g' → Frame roll g g' new
    → Holds g' h r' → master_of r'.members ≡ h → roll.home t.node ≡ h → (g.house h).floor < t.time → t.time ≤ (g'.house h).floor → r'.phase ≡ Idle
    → ((y : ℕ) → In y (others r'.members) → ⊥) → Done roll g' r'.epoch t r'.history
lone_done roll g g' new h r' t s s' f at_h' head node low high still empty = record {
  bounded = record {
    low = held_low roll g' h r' s' at_h';
    top = (s'.held h r' at_h').top;
    members = λ y b l. subst (λ (z : ℕ). Reached r'.epoch (g'.house z).slot) (sym (alone y b l)) (held_reached r'.epoch _ r' at_h' (le_refl _));
    floors = λ x q hq le. ⊎_elim (λ (lt : r'.epoch < q.epoch). c.high x q hq lt)
        (λ (ge : q.epoch ≤ r'.epoch). subst (λ (z : ℕ). t.time ≤ (g'.house z).floor) (sym (at x q hq le ge)) high) (cases_lt r'.epoch q.epoch);
    sent = c.sent;
    rounds = λ x q u hq le run. ⊎_elim
        (λ (lt : r'.epoch < q.epoch). c.rounds x q u hq lt run)
        (λ (ge : q.epoch ≤ r'.epoch).
        let same_q : q ≡ r' = same_held _ q r' (subst (λ (z : ℕ). Holds g' z q) (at x q hq le ge) hq) at_h' in
        absurd (not_idle q.phase u (ap (λ (z : Replica). z.phase) same_q ∙ still) run))
        (cases_lt r'.epoch q.epoch);
    within = λ x q j hq le i up. ⊎_elim (λ z. z) (λ (w : (y : ℕ) × Waits roll g' r'.epoch t [] j y). absurd (nobody w.0 w.1.other)) (c.within x q j hq le i up);
    within_m = λ m j im le i up. ⊎_elim (λ z. z) (λ (w : (y : ℕ) × Waits roll g' r'.epoch t [] j y). absurd (nobody w.0 w.1.other)) (c.within_m m j im le i up);
  };
  kept = λ x q j hq le i up. ⊎_elim
      (λ (lt : r'.epoch < q.epoch). absurd (last (le_trans lt (s'.held x q hq).top)))
      (λ (ge : q.epoch ≤ r'.epoch). subst (λ (z : Replica). In j z.history) (same_held _ r' q at_h' (subst (λ (z : ℕ). Holds g' z q) (at x q hq le ge) hq)) i)
      (cases_lt r'.epoch q.epoch);
  joins = λ m ms copy j im is lt. absurd (last (le_trans lt (s'.messages m im).top));
}
  where
    nobody : (y : ℕ) → In y (others (roll.list r'.epoch)) → ⊥
    nobody y o = empty y (subst (λ (z : List Member). In y (others z)) (sym (s'.held h r' at_h').members) o)

    none : (m : Message) (copy : Copy) → IsPosted g' m → m.body ≡ Gathered t copy → ⊥
    none m copy im is = ⊎_elim (λ was. old m (Gathered t copy) was is refl) (λ (n : New roll g g' new m). let e =
        kind_at roll g g' new m (Gathered t copy) n is in old e.0.to (Gather t) e.0.posted e.0.is refl) (f.posts m im)
      where
        old : (p : Message) (b : Body) → IsPosted g p → p.body ≡ b → round_of b ≡ Some t → ⊥
        old p b ip ib e = let l = (s.messages p ip).round t (round_at p b t ib e) in omega (arith, low, subst (λ (z : ℕ). t.time ≤ (g.house z).floor) node l.1)

    c : Covered roll g' r'.epoch t [] r'.history
    c = covered_begin roll g' h r' t s' at_h' head none (λ y o _. nobody y o)

    last : suc r'.epoch ≤ g'.top → ⊥
    last le = none_above roll g' h r' s' at_h' head (λ y o _. nobody y o) le

    alone : (y b : ℕ) → Listed (roll.list r'.epoch) y b → y ≡ h
    alone y b l = ⊎_elim (λ e. e ∙ (ap master_of (sym (s'.held h r' at_h').members) ∙ head)) (λ o. absurd (nobody y o)) (In-others y b (roll.list r'.epoch) l)

    at : (x : ℕ) (q : Replica) → Holds g' x q → r'.epoch ≤ q.epoch → q.epoch ≤ r'.epoch → x ≡ h
    at x q hq le ge = let e : q.epoch ≡ r'.epoch = omega arith in let l = (s'.held x q hq).listed in
        alone x l.0 (subst (λ (z : ℕ). Listed (roll.list z) x l.0) e l.1)

-- The second round, and what holds once it is complete.
use Rattle.std.proofs.Common.{◌≡◌, ℕ, suc, ◌<◌, ◌≤◌, ◌⊎◌, inl, inr, List, Some, refl, sym, ap, ◌∙◌, subst, arith, ⊎_elim, le_refl}
use Rattle.std.proofs.lemmas.Bool.{cases_lt}
use Rattle.cds_stamps.specs.declared.stamp.Stamp.{Stamp}
use Rattle.cds_stamps.specs.Members.{Member, master_of}
use Rattle.directory.specs.Histories.{Mark, stamp_in}
use Rattle.cell_model.specs.Cells.{Replica, Copy, Gathered, Spread, SpreadAck, Join, Message}
use Rattle.cell_model.specs.Commands.{Accepted}
use Rattle.cell_model.specs.Sets.{In, IsPart, IsUpTo}
use Rattle.cell_model.specs.Turns.{running_skulk_stamp}
use Rattle.cell_model.proofs.Terms.{Listed, others, In-others}
use Rattle.cell_model.proofs.Facts.{View, IsPosted, Holds, Roll, Reached, Sound, Past, grew, rose, crowned, copied, founded, New, Frame}
use Rattle.cell_model.proofs.Bounds.{reached_held, held_reached, same_held, kind_at, round_at, was_member, Bounded, not_below, copied_above, bounded_kept}

-- each house at epoch k and later has the marks of the list up to t
pub record Done (roll : Roll) (g : View) (k : ℕ) (t : Stamp) (all : List Mark) : Type 0 where
  pub bounded : Bounded roll g k t all
  pub kept : (x : ℕ) (q : Replica) (j : Mark) → Holds g x q → k ≤ q.epoch → In j all → IsUpTo (stamp_in j) t → In j q.history
  pub joins : (m : Message) (ms : List Member) (copy : Copy) (j : Mark) → IsPosted g m → m.body ≡ Join ms copy → k < m.epoch → In j all
      → IsUpTo (stamp_in j) t → In j copy.history

-- the member took the spread of t
abbrev pub SpreadBy : View → Stamp → List ℕ → ℕ → Type 0
SpreadBy g t a y = In y a ⊎ ((m : Message) × IsPosted g m × (m.sender ≡ y) × (m.body ≡ SpreadAck t))

-- no member passed k without it
abbrev pub AllSpread : Roll → View → ℕ → Stamp → List ℕ → Type 0
AllSpread roll g k t a = (y : ℕ) → In y (others (roll.list k)) → Reached (suc k) (g.house y).slot → SpreadBy g t a y

-- once a member took the spread, or is past the epoch, it has each of these marks up to t; and so
-- has each Join
pub record Covers (g : View) (k : ℕ) (t : Stamp) (a : List ℕ) (all : List Mark) : Type 0 where
  pub took : (y : ℕ) (q : Replica) (j : Mark) → SpreadBy g t a y → Holds g y q → In j all → IsUpTo (stamp_in j) t → In j q.history
  pub later : (x : ℕ) (q : Replica) (j : Mark) → Holds g x q → k < q.epoch → In j all → IsUpTo (stamp_in j) t → In j q.history
  pub joins : (m : Message) (ms : List Member) (copy : Copy) (j : Mark) → IsPosted g m → m.body ≡ Join ms copy → k < m.epoch → In j all
      → IsUpTo (stamp_in j) t → In j copy.history

-- the house posted an answer in the first round of t
abbrev pub Answered : View → Stamp → ℕ → Type 0
Answered g t y = (m : Message) × (copy : Copy) × IsPosted g m × (m.sender ≡ y) × (m.body ≡ Gathered t copy)

-- what holds while a master spreads: how far its marks reach, who answered, what was told, and what
-- is covered
pub record Spreads (roll : Roll) (g : View) (h : ℕ) (r : Replica) (t : Stamp) (a : List ℕ) : Type 0 where
  pub bounded : Bounded roll g r.epoch t r.history
  pub heard : (y : ℕ) → In y a → Reached r.epoch (g.house y).slot
  pub told : (m : Message) (copy : Copy) (j : Mark) → IsPosted g m → m.body ≡ Spread t copy → In j r.history → IsUpTo (stamp_in j) t → In j copy.history
  pub answers : (y : ℕ) → In y (others (roll.list r.epoch)) → Answered g t y
  pub covers : AllSpread roll g r.epoch t a → Covers g r.epoch t a r.history

module _ (roll : Roll) (g g' : View) (new : List Accepted) (s : Sound roll g) (s' : Sound roll g') (f : Frame roll g g' new) where
  -- a house at epoch k or later has them after the step
  kept_past : (k : ℕ) (t : Stamp) (all : List Mark) (x : ℕ) (q' : Replica) (j : Mark) → Done roll g k t all → Holds g' x q' → k ≤ q'.epoch → In j all
      → IsUpTo (stamp_in j) t → Past roll g g' x (g'.house x).floor q' → In j q'.history
  kept_past k t all x q' j d h' le i up (grew q h e _ sub _) = sub j (d.kept x q j h (omega arith) i up)
  kept_past k t all x q' j d h' le i up (rose q m ms copy h _ sub _ cont _) =
      sub j (d.kept x q j h (not_below roll g g' new s s' f k t all x q q' d.bounded h h' le cont) i up)
  kept_past k t all x q' j d h' le i up (crowned q h _ sub cont _ _ _ _ _) =
      sub j (d.kept x q j h (not_below roll g g' new s s' f k t all x q q' d.bounded h h' le cont) i up)
  kept_past k t all x q' j d h' le i up (copied m ms copy _ lower _ took) =
      let lt = copied_above roll g g' new s s' f k t all x q' d.bounded h' le lower in
      took.marks j (d.joins m ms copy j took.posted took.is (omega (arith, took.epoch)) i up)
  kept_past k t all x q' j d h' le i up (founded none _ _ _ _ _) = absurd (omega (arith, d.bounded.low, d.bounded.top))

  -- any step keeps what a completed skulk left
  pub done_kept : (k : ℕ) (t : Stamp) (all : List Mark) → Done roll g k t all → Done roll g' k t all
  done_kept k t all d = record {
    bounded = bounded_kept roll g g' new s s' f k t all d.bounded;
    kept = kept;
    joins = λ m ms copy j at is lt i up. ⊎_elim (λ was. d.joins m ms copy j was is lt i up)
        (λ (n : New roll g g' new m). (kind_at roll g g' new m (Join ms copy) n is).2 j (kept m.sender n.q j n.held (omega (arith, n.epoch)) i up))
        (f.posts m at);
  }
    where
      kept : (x : ℕ) (q' : Replica) (j : Mark) → Holds g' x q' → k ≤ q'.epoch → In j all → IsUpTo (stamp_in j) t → In j q'.history
      kept x q' j h' le i up = kept_past k t all x q' j d h' le i up (f.past x q' h')

  module _ (h : ℕ) (r r' : Replica) (t : Stamp) (a a' : List ℕ) (at_h : Holds g h r) (at_h' : Holds g' h r') (round : running_skulk_stamp r.phase ≡ Some t)
      (epoch : r.epoch ≡ r'.epoch) (grows : IsPart r.history r'.history) (v : Spreads roll g h r t a) (more : (y : ℕ) → In y a'
      → SpreadBy g t a y) (heard' : (y : ℕ) → In y a' → Reached r.epoch (g.house y).slot) where
    -- a new acknowledgement of t comes from a member at epoch k
    new_ack : (m : Message) (n : New roll g g' new m) → m.body ≡ SpreadAck t → m.epoch ≡ r.epoch
    new_ack m n is = let e = kind_at roll g g' new m (SpreadAck t) n is in sym e.1.epoch
        ∙ (s.held h r at_h).own t round e.1.to e.1.posted (round_at e.1.to (Spread t e.0) t e.1.is refl)

    spread_back : (y : ℕ) → Reached (suc r.epoch) (g'.house y).slot → SpreadBy g' t a' y → (q' : Replica) → Holds g' y q' → r.epoch < q'.epoch
        → SpreadBy g t a y
    spread_back y up (inl i) q' h' lt = more y i
    spread_back y up (inr o) q' h' lt = ⊎_elim (λ was. inr (o.0, was, o.2, o.3))
        (λ (n : New roll g g' new o.0).
        let same = same_held _ n.q q' (subst (λ (z : ℕ). Holds g' z n.q) o.2 n.held) h' in
        absurd (omega (arith, lt, n.epoch, new_ack o.0 n o.3, ap (λ (z : Replica). z.epoch) same)))
        (f.posts o.0 o.1)

    -- who passed k with an answer had it before the step
    all_back : AllSpread roll g' r.epoch t a' → AllSpread roll g r.epoch t a
    all_back p y o up = ⊎_elim (λ i. more y i)
        (λ (w : (m : Message) × IsPosted g' m × (m.sender ≡ y) × (m.body ≡ SpreadAck t)). ⊎_elim (λ was. inr (w.0, was, w.2, w.3))
        (λ (n : New roll g g' new w.0).
        let e = kind_at roll g g' new w.0 (SpreadAck t) n w.3 in
        let low = reached_held (suc r.epoch) _ e.1.held (subst (λ (z : ℕ). Holds g z e.1.held) w.2 e.1.holds) up in
        absurd (omega (arith, low, e.1.holds_epoch, new_ack w.0 n w.3)))
        (f.posts w.0 w.1))
        (p y o (f.climbs y (suc r.epoch) up))

    -- so has a member that took the Spread
    took_past : Covers g r.epoch t a r.history → (y : ℕ) (q' : Replica) (j : Mark) → SpreadBy g t a y → Reached r.epoch (g.house y).slot → Holds g' y q'
        → In j r.history → IsUpTo (stamp_in j) t → Past roll g g' y (g'.house y).floor q' → In j q'.history
    took_past c y q' j b low h' i up (grew q hq _ _ sub _) = sub j (c.took y q j b hq i up)
    took_past c y q' j b low h' i up (rose q _ _ _ hq _ sub _ _ _) = sub j (c.took y q j b hq i up)
    took_past c y q' j b low h' i up (crowned q hq _ sub _ _ _ _ _ _) = sub j (c.took y q j b hq i up)
    took_past c y q' j b low h' i up (copied m ms copy _ lower _ took) =
        let lt = lower r.epoch low in took.marks j (c.joins m ms copy j took.posted took.is (omega (arith, took.epoch)) i up)
    took_past c y q' j b low h' i up (founded none _ _ _ _ _) = absurd (omega (arith, v.bounded.low, v.bounded.top))

    -- so has a house that passed k
    later_past : Covers g r.epoch t a r.history → AllSpread roll g' r.epoch t a' → (x : ℕ) (q' : Replica) (j : Mark) → Holds g' x q' → r.epoch < q'.epoch
        → In j r.history → IsUpTo (stamp_in j) t → Past roll g g' x (g'.house x).floor q' → In j q'.history
    later_past c p x q' j h' lt i up (grew q hq e _ sub _) = sub j (c.later x q j hq (omega arith) i up)
    later_past c p x q' j h' lt i up (rose q m ms copy hq _ sub _ _ took) =
        took.marks j (c.joins m ms copy j took.posted took.is (omega (arith, took.epoch)) i up)
    later_past c p x q' j h' lt i up (copied m ms copy _ _ _ took) = took.marks j (c.joins m ms copy j took.posted took.is (omega (arith, took.epoch)) i up)
    later_past c p x q' j h' lt i up (founded none _ _ _ _ _) = absurd (omega (arith, v.bounded.low, v.bounded.top))
    later_past c p x q' j h' lt i up (crowned q hq _ sub cont _ _ _ _ _) = ⊎_elim
        (λ (above : r.epoch < q.epoch). sub j (c.later x q j hq above i up))
        (λ (le : q.epoch ≤ r.epoch).
        let ok = s'.held x q' h' in
        let l = was_member roll g'.top r.epoch q'.epoch x q.epoch ok.listed.0 s'.good (omega arith) ok.top ok.listed.1 (cont ok.listed.0 ok.listed.1) le in
        ⊎_elim
        (λ (e : x ≡ h). let same = same_held _ q' r' (subst (λ (z : ℕ). Holds g' z q') e h') at_h' in
        absurd (omega (arith, lt, epoch, ap (λ (z : Replica). z.epoch) same)))
        (λ (o : In x (others (roll.list r.epoch))).
        sub j (c.took x q j (spread_back x (held_reached (suc r.epoch) _ q' h' lt) (p x o (held_reached (suc r.epoch) _ q' h' lt)) q' h' lt) hq i up))
        (member_or x ok.listed.0 l))
        (cases_lt r.epoch q.epoch)
      where
        member_or : (x : ℕ) (b : ℕ) → Listed (roll.list r.epoch) x b → (x ≡ h) ⊎ In x (others (roll.list r.epoch))
        member_or x b l =
            let ok = s.held h r at_h in
            let m : master_of (roll.list r.epoch) ≡ h = ap master_of (sym ok.members) ∙ (ok.phase t round).0 in
            ⊎_elim (λ e. inl (e ∙ m)) (λ o. inr o) (In-others x b (roll.list r.epoch) l)

    -- any step keeps what holds while the second round runs
    pub spreads_kept : ((m : Message) (copy : Copy) → IsPosted g' m → m.body ≡ Spread t copy → IsPosted g m ⊎ IsPart r'.history copy.history)
        → Spreads roll g' h r' t a'
    spreads_kept told' =
        subst (λ (e : ℕ). Bounded roll g' e t r.history → ((y : ℕ) → In y a' → Reached e (g'.house y).slot)
        → ((y : ℕ) → In y (others (roll.list e)) → Answered g' t y) → (AllSpread roll g' e t a' → Covers g' e t a' r.history)
        → Spreads roll g' h r' t a') (sym epoch)
        (λ b hd ans cov. record {
          answers = ans;
          bounded = record {
            low = b.low;
            top = b.top;
            rounds = b.rounds;
            members = b.members;
            floors = b.floors;
            sent = b.sent;
            within =
                λ x q j hq le i up. grows j (b.within x q j hq le i up);
            within_m = λ m j at le i up. grows j (b.within_m m j at le i up);
          };
          heard = hd;
          told = λ m copy j at is i up. ⊎_elim (λ was. v.told m copy j was is (b.within h r' j at_h' (le_refl _) i up) up) (λ sub. sub j i)
              (told' m copy at is);
          covers = λ p. let c = cov p in record {
            took = λ y q j w hq i up. c.took y q j w hq (b.within h r' j at_h' (le_refl _) i up) up;
            later = λ x q j hq lt i up. c.later x q j hq lt (b.within h r' j at_h' (le_refl _) i up) up;
            joins = λ m ms copy j at is lt i up. c.joins m ms copy j at is lt (b.within h r' j at_h' (le_refl _) i up) up;
          };
        })
        (bounded_kept roll g g' new s s' f r.epoch t r.history v.bounded)
        (λ y i. f.climbs y r.epoch (heard' y i))
        (λ y o. let w = v.answers y o in (w.0, w.1, f.stays w.0 w.2, w.3, w.4))
        covers'
      where
        covers' : AllSpread roll g' r.epoch t a' → Covers g' r.epoch t a' r.history
        covers' p = let c = v.covers (all_back p) in record {
          took = λ y q j w hq i up. ⊎_elim
              (λ z. took_past c y q j (more y z) (heard' y z) hq i up (f.past y q hq))
              (λ (o : (m : Message) × IsPosted g' m × (m.sender ≡ y) × (m.body ≡ SpreadAck t)). ⊎_elim
              (λ was. let l = s.messages o.0 was in
              let e = (s.held h r at_h).own t round o.0 was (round_at o.0 (SpreadAck t) t o.3 refl) in
              took_past c y q j (inr (o.0, was, o.2, o.3))
              (subst (λ (z : ℕ). Reached r.epoch (g.house z).slot) o.2 (subst (λ (d : ℕ). Reached d (g.house (o.0).sender).slot) e l.sent)) hq i up
              (f.past y q hq))
              (λ (n : New roll g g' new o.0).
              let e = kind_at roll g g' new o.0 (SpreadAck t) n o.3 in
              let same = same_held _ n.q q (subst (λ (z : ℕ). Holds g' z n.q) o.2 n.held) hq in
              subst (λ (z : Replica). In j z.history) same (e.2 j (v.told e.1.to e.0 j e.1.posted e.1.is i up)))
              (f.posts o.0 o.1))
              w;
          later = λ x q j hq lt i up. later_past c p x q j hq lt i up (f.past x q hq);
          joins = λ m ms copy j at is lt i up. ⊎_elim (λ was. c.joins m ms copy j was is lt i up)
              (λ (n : New roll g g' new m). (kind_at roll g g' new m (Join ms copy) n is).2 j
              (later_past c p m.sender n.q j n.held (omega (arith, n.epoch)) i up (f.past m.sender n.q n.held)))
              (f.posts m at);
        }

-- the last acknowledgement
pub done_when : (roll : Roll) (g : View) (h : ℕ) (r : Replica) (t : Stamp) (a : List ℕ) → Sound roll g → Holds g h r → master_of r.members ≡ h
    → Spreads roll g h r t a → ((y : ℕ) → In y (others r.members) → In y a) → Done roll g r.epoch t r.history
done_when roll g h r t a s at_h is_master v all =
    let ok = s.held h r at_h in
    let everyone : (y : ℕ) → In y (others (roll.list r.epoch)) → In y a = λ y o. all y (subst (λ (z : List Member). In y (others z)) (sym ok.members) o) in
    let c = v.covers (λ y o _. inl (everyone y o)) in
    let m : master_of (roll.list r.epoch) ≡ h = ap master_of (sym ok.members) ∙ is_master in
    record {
      bounded = v.bounded;
      kept = λ x q j hq le i up. ⊎_elim
          (λ (lt : r.epoch < q.epoch). c.later x q j hq lt i up)
          (λ (ge : q.epoch ≤ r.epoch).
          let e : q.epoch ≡ r.epoch = omega arith in
          let l = (s.held x q hq).listed in
          ⊎_elim
          (λ (w : x ≡ master_of (roll.list r.epoch)). subst (λ (z : Replica). In j z.history) (same_held _ r q at_h (subst (λ (z : ℕ). Holds g z q) (w ∙ m) hq))
          i)
          (λ o. c.took x q j (inl (everyone x o)) hq i up)
          (In-others x l.0 (roll.list r.epoch) (subst (λ (z : ℕ). Listed (roll.list z) x l.0) e l.1)))
          (cases_lt r.epoch q.epoch);
      joins = λ m' ms copy j at is lt i up. c.joins m' ms copy j at is lt i up;
    }

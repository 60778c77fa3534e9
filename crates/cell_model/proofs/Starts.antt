-- What holds of a skulk from the start of its second round on, whether it runs on or not: x is what
-- its master had then.
use Rattle.std.proofs.Common.{◌≡◌, ℕ, suc, ◌<◌, ◌≤◌, inr, List, [], Some, refl, sym, ap, ◌∙◌, subst, arith, ⊎_elim, le_trans}
use Rattle.std.proofs.lemmas.Bool.{cases_lt}
use Rattle.cds_stamps.specs.declared.stamp.Stamp.{Stamp}
use Rattle.cds_stamps.specs.Members.{Member, master_of}
use Rattle.directory.specs.Histories.{Mark, stamp_in}
use Rattle.cell_model.specs.Cells.{Phase, Idle, Spreading, Replica, Copy, Spread, SpreadAck, Join, Message}
use Rattle.cell_model.specs.Commands.{Accepted}
use Rattle.cell_model.specs.Sets.{In, IsPart, IsUpTo}
use Rattle.cell_model.specs.Turns.{running_skulk_stamp}
use Rattle.cell_model.proofs.Terms.{Listed, others, In-others}
use Rattle.cell_model.proofs.Facts.{View, IsPosted, Holds, Roll, round_of, Reached, HeldOk, Sound, Past, grew, rose, crowned, copied, founded, New, Frame}
use Rattle.cell_model.proofs.Bounds.{Begun, past_round, not_idle, reached_held, held_reached, same_held, kind_at, round_at, was_member, Bounded, bounded_kept}
use Rattle.cell_model.proofs.SecondRound.{Spreads, Done}
use Rattle.cell_model.proofs.Soundness.{Earlier, new_round}

-- the house answered in the second round of t
abbrev pub Acked : View → Stamp → ℕ → Type 0
Acked g t y = (m : Message) × IsPosted g m × (m.sender ≡ y) × (m.body ≡ SpreadAck t)

-- the marks of x up to t are in this history
abbrev pub UpTo : Stamp → List Mark → List Mark → Type 0
UpTo t x h = (j : Mark) → In j x → IsUpTo (stamp_in j) t → In j h

-- those who answered, those in later epochs, and the Joins of later epochs have the marks of x up
-- to t
pub record Covering (g : View) (k : ℕ) (t : Stamp) (x : List Mark) : Type 0 where
  pub took : (y : ℕ) (q : Replica) → Acked g t y → Holds g y q → UpTo t x q.history
  pub later : (y : ℕ) (q : Replica) → Holds g y q → k < q.epoch → UpTo t x q.history
  pub joins : (m : Message) (ms : List Member) (copy : Copy) → IsPosted g m → m.body ≡ Join ms copy → k < m.epoch → UpTo t x copy.history

-- no other member passed k without an answer
abbrev pub AllAcked : Roll → View → ℕ → Stamp → Type 0
AllAcked roll g k t = (y : ℕ) → In y (others (roll.list k)) → Reached (suc k) (g.house y).slot → Acked g t y

-- what holds from the start of the second round on: the marks x of the master, where they are told,
-- and who has them
pub record Started (roll : Roll) (g : View) (h k : ℕ) (t : Stamp) (x : List Mark) : Type 0 where
  pub bounded : Bounded roll g k t x
  pub head : master_of (roll.list k) ≡ h
  pub listed : (b : ℕ) × Listed (roll.list k) h b
  pub home : roll.home t.node ≡ h
  pub low : t.time ≤ (g.house h).floor
  pub runs : (y : ℕ) (q : Replica) → Holds g y q → running_skulk_stamp q.phase ≡ Some t → (q.epoch ≡ k) × UpTo t x q.history
  pub epochs : (m : Message) → IsPosted g m → round_of m.body ≡ Some t → m.epoch ≡ k
  pub told : (m : Message) (copy : Copy) → IsPosted g m → m.body ≡ Spread t copy → UpTo t x copy.history
  pub master : (q : Replica) → Holds g h q → q.epoch ≡ k → UpTo t x q.history
  pub covers : AllAcked roll g k t → Covering g k t x

module _ (roll : Roll) (g g' : View) (new : List Accepted) (s : Sound roll g) (s' : Sound roll g') (f : Frame roll g g' new) (h k : ℕ) (t : Stamp)
    (x : List Mark) (v : Started roll g h k t x) where
  part : (a b : List Mark) → IsPart a b → UpTo t x a → UpTo t x b
  part a b sub u j i up = sub j (u j i up)

  runs_past : (y floor : ℕ) (q' : Replica) → Holds g' y q' → (g.house y).floor ≤ floor → running_skulk_stamp q'.phase ≡ Some t → Past roll g g' y floor q'
      → (r : Replica) × Holds g y r × (r.epoch ≡ q'.epoch) × IsPart r.history q'.history
  runs_past y floor q' h' le run (grew r hr e _ sub _) = (r, hr, e, sub)
  runs_past y floor q' h' le run (rose _ _ _ _ _ _ _ _ _ took) = absurd (not_idle _ t took.idle run)
  runs_past y floor q' h' le run (crowned _ _ _ _ _ _ _ _ _ i) = absurd (not_idle _ t i run)
  runs_past y floor q' h' le run (copied _ _ _ _ _ _ took) = absurd (not_idle _ t took.idle run)
  runs_past y floor q' h' le run (founded _ _ _ _ _ i) = absurd (not_idle _ t i run)

  runs' : (y : ℕ) (q' : Replica) → Holds g' y q' → running_skulk_stamp q'.phase ≡ Some t → (q'.epoch ≡ k) × UpTo t x q'.history
  runs' y q' h' run =
      let p = past_round roll g g' y (g'.house y).floor q' t (f.past y q' h') run in
      let w = runs_past y (g'.house y).floor q' h' (f.rises y) run (f.past y q' h') in
      ⊎_elim
      (λ was. let same : p.0 ≡ w.0 = same_held _ p.0 w.0 p.1 w.1 in
      let o = v.runs y w.0 w.1 (ap (λ (z : Replica). running_skulk_stamp z.phase) (sym same) ∙ was) in
      (sym w.2 ∙ o.0, part w.0.history q'.history w.3 o.1))
      (λ (b : Begun roll g y (g'.house y).floor p.0 t).
      let here : y ≡ h = sym b.1 ∙ v.home in
      absurd (omega (arith, b.2, subst (λ (z : ℕ). t.time ≤ (g.house z).floor) (sym here) v.low)))
      p.4

  epochs' : (m : Message) → IsPosted g' m → round_of m.body ≡ Some t → m.epoch ≡ k
  epochs' m at e = ⊎_elim (λ was. v.epochs m was e)
      (λ (n : New roll g g' new m). ⊎_elim
      (λ (w : Earlier g m t). sym w.epoch ∙ v.epochs w.it w.posted w.round)
      (λ run. sym n.epoch ∙ (runs' m.sender n.q n.held run).0)
      (new_round roll g m n.q m.body t n.kind e))
      (f.posts m at)

  told' : (m : Message) (copy : Copy) → IsPosted g' m → m.body ≡ Spread t copy → UpTo t x copy.history
  told' m copy at is = ⊎_elim (λ was. v.told m copy was is)
      (λ (n : New roll g g' new m).
      let e = kind_at roll g g' new m (Spread t copy) n is in
      let run : running_skulk_stamp n.q.phase ≡ Some t = subst (λ (z : Phase). running_skulk_stamp z ≡ Some t) (sym e.0) refl in
      part n.q.history copy.history e.1 (runs' m.sender n.q n.held run).1)
      (f.posts m at)

  head_reached : Reached k (g.house h).slot
  head_reached = v.bounded.members h v.listed.0 v.listed.1

  master_past : (q' : Replica) → Holds g' h q' → q'.epoch ≡ k → Past roll g g' h (g'.house h).floor q' → UpTo t x q'.history
  master_past q' h' e (grew r hr ep _ sub _) = part r.history q'.history sub (v.master r hr (ep ∙ e))
  master_past q' h' e (rose r _ _ _ hr lt _ _ _ _) = absurd (omega (arith, lt, e, reached_held k _ r hr head_reached))
  master_past q' h' e (crowned r hr lt _ _ _ _ _ _ _) = absurd (omega (arith, lt, e, reached_held k _ r hr head_reached))
  master_past q' h' e (copied _ _ _ _ lower _ _) = absurd (omega (arith, lower k head_reached, e))
  master_past q' h' e (founded none _ _ _ _ _) = absurd (omega (arith, none, v.bounded.low, v.bounded.top))

  -- an answer that is new comes from a house in epoch k
  new_ack : (m : Message) (n : New roll g g' new m) → m.body ≡ SpreadAck t → m.epoch ≡ k
  new_ack m n is = let e = kind_at roll g g' new m (SpreadAck t) n is in sym e.1.epoch
      ∙ v.epochs e.1.to e.1.posted (round_at e.1.to (Spread t e.0) t e.1.is refl)

  acked_back : (y : ℕ) → Acked g' t y → Reached (suc k) (g.house y).slot → Acked g t y
  acked_back y w up = ⊎_elim (λ was. (w.0, was, w.2, w.3))
      (λ (n : New roll g g' new w.0).
      let e = kind_at roll g g' new w.0 (SpreadAck t) n w.3 in
      let low = reached_held (suc k) _ e.1.held (subst (λ (z : ℕ). Holds g z e.1.held) w.2 e.1.holds) up in
      absurd (omega (arith, low, e.1.holds_epoch, new_ack w.0 n w.3)))
      (f.posts w.0 w.1)

  all_back : AllAcked roll g' k t → AllAcked roll g k t
  all_back p y o up = acked_back y (p y o (f.climbs y (suc k) up)) up

  -- who answered reached k
  acked_reached : (y : ℕ) → Acked g t y → Reached k (g.house y).slot
  acked_reached y w =
      let e = v.epochs w.0 w.1 (round_at w.0 (SpreadAck t) t w.3 refl) in
      subst (λ (z : ℕ). Reached k (g.house z).slot) w.2 (subst (λ (z : ℕ). Reached z (g.house (w.0).sender).slot) e (s.messages w.0 w.1).sent)

  took_past : Covering g k t x → (y : ℕ) (q' : Replica) → Acked g t y → Holds g' y q' → Past roll g g' y (g'.house y).floor q' → UpTo t x q'.history
  took_past c y q' a h' (grew r hr _ _ sub _) = part r.history q'.history sub (c.took y r a hr)
  took_past c y q' a h' (rose r _ _ _ hr _ sub _ _ _) = part r.history q'.history sub (c.took y r a hr)
  took_past c y q' a h' (crowned r hr _ sub _ _ _ _ _ _) = part r.history q'.history sub (c.took y r a hr)
  took_past c y q' a h' (copied m ms copy _ lower _ took) =
      let lt = lower k (acked_reached y a) in
      part copy.history q'.history took.marks (c.joins m ms copy took.posted took.is (omega (arith, took.epoch)))
  took_past c y q' a h' (founded none _ _ _ _ _) = absurd (omega (arith, none, v.bounded.low, v.bounded.top))

  later_past : Covering g k t x → AllAcked roll g' k t → (y : ℕ) (q' : Replica) → Holds g' y q' → k < q'.epoch → Past roll g g' y (g'.house y).floor q'
      → UpTo t x q'.history
  later_past c p y q' h' lt (grew r hr e _ sub _) = part r.history q'.history sub (c.later y r hr (omega arith))
  later_past c p y q' h' lt (rose r m ms copy hr _ _ _ _ took) =
      part copy.history q'.history took.marks (c.joins m ms copy took.posted took.is (omega (arith, took.epoch)))
  later_past c p y q' h' lt (copied m ms copy _ _ _ took) =
      part copy.history q'.history took.marks (c.joins m ms copy took.posted took.is (omega (arith, took.epoch)))
  later_past c p y q' h' lt (founded none _ _ _ _ _) = absurd (omega (arith, none, v.bounded.low, v.bounded.top))
  later_past c p y q' h' lt (crowned r hr _ sub cont _ _ _ _ _) = ⊎_elim
      (λ (above : k < r.epoch). part r.history q'.history sub (c.later y r hr above))
      (λ (le : r.epoch ≤ k).
      let ok = s'.held y q' h' in
      let l = was_member roll g'.top k q'.epoch y r.epoch ok.listed.0 s'.good (omega arith) ok.top ok.listed.1 (cont ok.listed.0 ok.listed.1) le in
      let low : k ≤ r.epoch = reached_held k _ r hr (v.bounded.members y ok.listed.0 l) in
      ⊎_elim
      (λ (e : y ≡ master_of (roll.list k)).
      let at_h : Holds g h r = subst (λ (z : ℕ). Holds g z r) (e ∙ v.head) hr in
      part r.history q'.history sub (v.master r at_h (omega arith)))
      (λ o.
      let a = p y o (held_reached (suc k) _ q' h' lt) in
      part r.history q'.history sub (c.took y r (⊎_elim (λ was. (a.0, was, a.2, a.3))
      (λ (n : New roll g g' new a.0).
      let same = same_held _ n.q q' (subst (λ (z : ℕ). Holds g' z n.q) a.2 n.held) h' in
      absurd (omega (arith, lt, n.epoch, new_ack a.0 n a.3, ap (λ (z : Replica). z.epoch) same)))
      (f.posts a.0 a.1)) hr))
      (In-others y ok.listed.0 (roll.list k) l))
      (cases_lt k r.epoch)

  covers' : AllAcked roll g' k t → Covering g' k t x
  covers' p =
      let c = v.covers (all_back p) in
      record {
        took = λ y q' a h'. ⊎_elim
            (λ was. took_past c y q' (a.0, was, a.2, a.3) h' (f.past y q' h'))
            (λ (n : New roll g g' new a.0).
            let e = kind_at roll g g' new a.0 (SpreadAck t) n a.3 in
            let same = same_held _ n.q q' (subst (λ (z : ℕ). Holds g' z n.q) a.2 n.held) h' in
            subst (λ (z : Replica). UpTo t x z.history) same (part (e.0).history n.q.history e.2 (v.told e.1.to e.0 e.1.posted e.1.is)))
            (f.posts a.0 a.1);
        later = λ y q' h' lt. later_past c p y q' h' lt (f.past y q' h');
        joins = λ m ms copy at is lt. ⊎_elim (λ was. c.joins m ms copy was is lt)
            (λ (n : New roll g g' new m). part n.q.history copy.history (kind_at roll g g' new m (Join ms copy) n is).2
            (later_past c p m.sender n.q n.held (omega (arith, n.epoch)) (f.past m.sender n.q n.held)))
            (f.posts m at);
      }

  -- any step keeps it
  pub started_kept : Started roll g' h k t x
  started_kept = record {
    bounded = bounded_kept roll g g' new s s' f k t x v.bounded;
    head = v.head;
    listed = v.listed;
    home = v.home;
    low = le_trans v.low (f.rises h);
    runs = runs';
    epochs = epochs';
    told = told';
    master = λ q' h' e. master_past q' h' e (f.past h q' h');
    covers = covers';
  }

-- ---- the start

-- the second round of a skulk whose first is over
pub started_turned : (roll : Roll) (g : View) (h : ℕ) (r : Replica) (t : Stamp) → Sound roll g → Holds g h r → r.phase ≡ Spreading t []
    → Spreads roll g h r t [] → Started roll g h r.epoch t r.history
started_turned roll g h r t s at phase v = record {
  bounded = v.bounded;
  head = ap master_of (sym ok.members) ∙ run.0;
  listed = ok.listed;
  home = run.1;
  low = run.2;
  runs = λ y q hq e.
      let o = (s.held y q hq).phase t e in
      let here : y ≡ h = sym o.1 ∙ run.1 in
      let same : r ≡ q = same_held _ r q at (subst (λ (z : ℕ). Holds g z q) here hq) in
      (ap (λ (z : Replica). z.epoch) (sym same), λ j i up. subst (λ (z : Replica). In j z.history) same i);
  epochs = λ m im e. ok.own t runs m im e;
  told = λ m copy im is j i up. v.told m copy j im is i up;
  master = λ q hq e j i up. subst (λ (z : Replica). In j z.history) (same_held _ r q at hq) i;
  covers = λ p. let c = v.covers (λ y o up. inr (p y o up)) in record {
    took = λ y q a hq j i up. c.took y q j (inr a) hq i up;
    later = λ y q hq lt j i up. c.later y q j hq lt i up;
    joins = λ m ms copy im is lt j i up. c.joins m ms copy j im is lt i up;
  };
}
  where
    ok : HeldOk roll g h r
    ok = s.held h r at

    runs : running_skulk_stamp r.phase ≡ Some t
    runs = subst (λ (z : Phase). running_skulk_stamp z ≡ Some t) (sym phase) refl

    run : (master_of r.members ≡ h) × (roll.home t.node ≡ h) × (t.time ≤ (g.house h).floor)
    run = (s.held h r at).phase t (subst (λ (z : Phase). running_skulk_stamp z ≡ Some t) (sym phase) refl)

-- a skulk that completes in the step that begins it
pub started_alone : (roll : Roll) (g g' : View) (new : List Accepted) (h : ℕ) (r : Replica) (t : Stamp) → Sound roll g → Sound roll g'
    → Frame roll g g' new → Holds g' h r → r.phase ≡ Idle → master_of r.members ≡ h → roll.home t.node ≡ h → (g.house h).floor < t.time
    → t.time ≤ (g'.house h).floor → Done roll g' r.epoch t r.history → Started roll g' h r.epoch t r.history
started_alone roll g g' new h r t s s' f at still head home fresh high done = record {
  bounded = done.bounded;
  head = ap master_of (sym (s'.held h r at).members) ∙ head;
  listed = (s'.held h r at).listed;
  home = home;
  low = high;
  runs = λ y q hq e. absurd (no_run y q hq e);
  epochs = λ m im e. absurd (no_message m im e);
  told = λ m copy im is. absurd (no_message m im (round_at m (Spread t copy) t is refl));
  master = λ q hq e j i up. subst (λ (z : Replica). In j z.history) (same_held _ r q at hq) i;
  covers = λ p. record {
    took = λ y q a. absurd (no_message a.0 a.1 (round_at a.0 (SpreadAck t) t a.3 refl));
    later = λ y q hq lt j i up. done.kept y q j hq (omega arith) i up;
    joins = λ m ms copy im is lt j i up. done.joins m ms copy j im is lt i up;
  };
}
  where
    no_run : (y : ℕ) (q : Replica) → Holds g' y q → running_skulk_stamp q.phase ≡ Some t → ⊥
    no_run y q hq e =
        let here : y ≡ h = sym ((s'.held y q hq).phase t e).1 ∙ home in
        let same : q ≡ r = same_held _ q r (subst (λ (z : ℕ). Holds g' z q) here hq) at in
        not_idle q.phase t (ap (λ (z : Replica). z.phase) same ∙ still) e

    old : (m : Message) → IsPosted g m → round_of m.body ≡ Some t → ⊥
    old m im e = let l = ((s.messages m im).round t e).1 in omega (arith, fresh, subst (λ (z : ℕ). t.time ≤ (g.house z).floor) home l)

    no_message : (m : Message) → IsPosted g' m → round_of m.body ≡ Some t → ⊥
    no_message m im e = ⊎_elim (λ was. old m was e)
        (λ (n : New roll g g' new m). ⊎_elim (λ (w : Earlier g m t). old w.it w.posted w.round) (λ run. no_run m.sender n.q n.held run)
        (new_round roll g m n.q m.body t n.kind e))
        (f.posts m im)

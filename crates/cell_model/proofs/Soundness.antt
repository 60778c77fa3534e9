-- Each step keeps what is sound.
use Rattle.std.proofs.lemmas.Bool.{cases_lt}
use Rattle.std.proofs.Common.{◌≡◌, ℕ, suc, ◌<◌, ◌≤◌, ◌⊎◌, inl, inr, List, Some, sym, ap, ◌∙◌, subst, arith, ⊎_elim, le_trans}
use Rattle.cds_stamps.specs.declared.stamp.Stamp.{Stamp}
use Rattle.cds_stamps.specs.Members.{Member, master_of}
use Rattle.directory.specs.Histories.{Mark, stamp_in}
use Rattle.cell_model.specs.Cells.{Phase, Replica, Gone, Copy, Body, Update, Gather, Gathered, Spread, SpreadAck, Advance, Join, Leave, Message}
use Rattle.cell_model.specs.Commands.{Accepted}
use Rattle.cell_model.specs.Sets.{In, IsPart}
use Rattle.cell_model.specs.Turns.{running_skulk_stamp}
use Rattle.cell_model.proofs.Terms.{Listed}
use Rattle.cell_model.proofs.Facts.{View, IsPosted, Holds, Roll, marks_in, round_of, HeldOk, Kind, Lawful, Sound, Took, Past, grew, rose, crowned}
use Rattle.cell_model.proofs.Facts.{copied, founded, Came, own, sent, fresh, Answers, NewKind, New, Frame}
use Rattle.cell_model.proofs.Bounds.{Begun, past_round, reached_held, held_reached, same_held, round_at}

-- a message of the skulk t that the new one answers, or the skulk t runs at its sender
pub record Earlier (g : View) (m : Message) (t : Stamp) : Type 0 where
  pub it : Message
  pub posted : IsPosted g it
  pub round : round_of it.body ≡ Some t
  pub epoch : it.epoch ≡ m.epoch
  pub floor : it.floor ≤ m.floor

pub earlier : (g : View) (m : Message) (t : Stamp) (b : Body) → Answers g m b → round_of b ≡ Some t → Earlier g m t
earlier g m t b a e = record { it = a.to; posted = a.posted; round = round_at a.to b t a.is e; epoch = a.epoch; floor = a.floor }

-- a message of a round answers an earlier one of that round, or its sender runs the round
pub new_round : (roll : Roll) (g : View) (m : Message) (q : Replica) (b : Body) (t : Stamp) → NewKind roll g m q b → round_of b ≡ Some t
    → Earlier g m t ⊎ (running_skulk_stamp q.phase ≡ Some t)
new_round roll g m q (Update marks) t k e = absurd (cc)
new_round roll g m q (Gather u) t k e = inr (subst (λ (z : Phase). running_skulk_stamp z ≡ Some t) (sym k) e)
new_round roll g m q (Gathered u copy) t k e = inl (earlier g m t (Gather u) k.0 e)
new_round roll g m q (Spread u copy) t k e = inr (subst (λ (z : Phase). running_skulk_stamp z ≡ Some t) (sym k.0) e)
new_round roll g m q (SpreadAck u) t k e = inl (earlier g m t (Spread u k.0) k.1 e)
new_round roll g m q (Advance u) t k e = inl (record { it = k.0; posted = k.1; round = round_at k.0 (SpreadAck u) t k.2 e; epoch = k.3; floor = k.4 })
new_round roll g m q (Join ms copy) t k e = absurd (cc)
new_round roll g m q Leave t k e = absurd (cc)

new_kind : (roll : Roll) (g : View) (m : Message) (q : Replica) (b : Body) → NewKind roll g m q b → Kind roll m b
new_kind roll g m q (Update marks) k = tt
new_kind roll g m q (Gather u) k = tt
new_kind roll g m q (Gathered u copy) k = tt
new_kind roll g m q (Spread u copy) k = tt
new_kind roll g m q (SpreadAck u) k = tt
new_kind roll g m q (Advance u) k = tt
new_kind roll g m q (Join ms marks) k = (k.0, k.1)
new_kind roll g m q Leave k = k

module _ (roll : Roll) (g g' : View) (new : List Accepted) (s : Sound roll g) (f : Frame roll g g' new) where
  took_members : (x floor : ℕ) (r' : Replica) (m : Message) (ms : List Member) (copy : Copy) → Took g m ms copy r' floor → m.receiver ≡ x
      → (r'.epoch ≤ g'.top) × (r'.members ≡ roll.list r'.epoch) × ((b : ℕ) × Listed (roll.list r'.epoch) x b)
  took_members x floor r' m ms copy took to =
      let l = s.messages m took.posted in
      let k : (ms ≡ roll.list m.epoch) × ((b : ℕ) × Listed (roll.list m.epoch) m.receiver b) = subst (λ (b : Body). Kind roll m b) took.is l.kind in (
        omega (arith, took.epoch, l.top, f.top),
        took.members ∙ k.0 ∙ ap roll.list took.epoch,
        (k.1.0, subst (λ (z : ℕ). Listed (roll.list r'.epoch) z k.1.0) to (subst (λ (z : ℕ). Listed (roll.list z) m.receiver k.1.0) took.epoch k.1.1)),
      )

  past_members : (x floor : ℕ) (r' : Replica) → Past roll g g' x floor r'
      → (r'.epoch ≤ g'.top) × (r'.members ≡ roll.list r'.epoch) × ((b : ℕ) × Listed (roll.list r'.epoch) x b)
  past_members x floor r' (grew r h e m _ _) =
      let ok = s.held x r h in
      (omega (arith, ok.top, f.top), m ∙ ok.members ∙ ap roll.list e, (ok.listed.0, subst (λ (z : ℕ). Listed (roll.list z) x ok.listed.0) e ok.listed.1))
  past_members x floor r' (rose _ m ms copy _ _ _ to _ took) = took_members x floor r' m ms copy took to
  past_members x floor r' (copied m ms copy to _ _ took) = took_members x floor r' m ms copy took to
  past_members x floor r' (crowned _ _ _ _ _ _ e m l _) = (omega (arith, e), m ∙ f.present ∙ ap roll.list (sym e), l)
  past_members x floor r' (founded _ e m _ l _) = (omega (arith, e), m ∙ f.present ∙ ap roll.list (sym e), l)

  phase' : (x : ℕ) (r' : Replica) (t : Stamp) → Holds g' x r' → running_skulk_stamp r'.phase ≡ Some t
      → (master_of r'.members ≡ x) × (roll.home t.node ≡ x) × (t.time ≤ (g'.house x).floor)
  phase' x r' t h q =
      let p = past_round roll g g' x (g'.house x).floor r' t (f.past x r' h) q in
      let m : master_of r'.members ≡ master_of (p.0).members = ap master_of p.3 in
      ⊎_elim
      (λ was. let o = (s.held x p.0 p.1).phase t was in (m ∙ o.0, o.1, le_trans o.2 (f.rises x)))
      (λ (b : Begun roll g x (g'.house x).floor p.0 t). (m ∙ b.0, b.1, b.3))
      p.4

  floors_came : (x : ℕ) (r' : Replica) (k : Mark) → Came roll g g' new x (g'.house x).floor r' k → (stamp_in k).time ≤ (g'.house x).floor
  floors_came x r' k (own r h i _ _ _) = le_trans ((s.held x r h).floors k i) (f.rises x)
  floors_came x r' k (sent m at _ i le _) = le_trans ((s.messages m at).bound k i) le
  floors_came x r' k (fresh r _ h _ _ le _ _ _ _ _ _) = le

  old_round : (x : ℕ) (r' : Replica) (t : Stamp) (m : Message) → Holds g' x r' → running_skulk_stamp r'.phase ≡ Some t → IsPosted g m → round_of m.body ≡ Some t
      → m.epoch ≡ r'.epoch
  old_round x r' t m h q at e =
      let p = past_round roll g g' x (g'.house x).floor r' t (f.past x r' h) q in
      ⊎_elim
      (λ was. (s.held x p.0 p.1).own t was m at e ∙ p.2)
      (λ (b : Begun roll g x (g'.house x).floor p.0 t).
      absurd (omega (arith, b.2, subst (λ (z : ℕ). t.time ≤ (g.house z).floor) b.1 ((s.messages m at).round t e).1)))
      p.4

  held' : (x : ℕ) (r' : Replica) → Holds g' x r' → HeldOk roll g' x r'
  held' x r' h =
      let p = past_members x (g'.house x).floor r' (f.past x r' h) in
      record {
        top = p.0;
        members = p.1;
        listed = p.2;
        floors = λ k i. floors_came x r' k (f.comes x r' k h i);
        phase = λ t q. phase' x r' t h q;
        own = λ t q m at e. ⊎_elim
            (λ was. old_round x r' t m h q was e)
            (λ (n : New roll g g' new m). ⊎_elim
            (λ (w : Earlier g m t). sym w.epoch ∙ old_round x r' t w.it h q w.posted w.round)
            (λ z.
            let by : m.sender ≡ x = sym (phase' m.sender n.q t n.held z).1 ∙ (phase' x r' t h q).1 in
            let same_r = same_held _ n.q r' (subst (λ (y : ℕ). Holds g' y n.q) by n.held) h in
            sym n.epoch ∙ ap (λ (y : Replica). y.epoch) same_r)
            (new_round roll g m n.q m.body t n.kind e))
            (f.posts m at);
      }

  held_past : (m : Message) (r' : Replica) → Lawful roll g m → r'.epoch ≡ m.epoch → Past roll g g' m.sender (g'.house m.sender).floor r'
      → IsPart (marks_in m.body) r'.history
  held_past m r' l e (grew r h e' _ sub _) = λ k i. sub k (l.held r h (e' ∙ e) k i)
  held_past m r' l e (rose r _ _ _ h lt _ _ _ _) = let up = reached_held m.epoch _ r h l.sent in absurd (omega (arith, up, lt, e))
  held_past m r' l e (crowned r h lt _ _ _ _ _ _ _) = let up = reached_held m.epoch _ r h l.sent in absurd (omega (arith, up, lt, e))
  held_past m r' l e (copied _ _ _ _ lower _ _) = absurd (omega (arith, lower m.epoch l.sent, e))
  held_past m r' l e (founded none _ _ _ _ _) = absurd (low_top l.by.0 (subst (λ (z : ℕ). Listed (roll.list z) m.sender l.by.0) zero_epoch l.by.1))
    where
      zero_epoch : m.epoch ≡ 0
      zero_epoch = omega (arith, l.top)

      low_top : (b : ℕ) → Listed (roll.list 0) m.sender b → ⊥
      low_top b i = s.good.none m.sender b i

  lawful_old : (m : Message) → Lawful roll g m → Lawful roll g' m
  lawful_old m l = record {
    top = le_trans l.top f.top;
    by = l.by;
    sent = f.climbs m.sender m.epoch l.sent;
    floor = le_trans l.floor (f.rises m.sender);
    held = λ r' h e. held_past m r' l e (f.past m.sender r' h);
    bound = l.bound;
    round = λ t e. let o = l.round t e in (o.0, le_trans o.1 (f.rises (roll.home t.node)));
    kind = l.kind;
  }

  lawful_new : (m : Message) → New roll g g' new m → Lawful roll g' m
  lawful_new m n =
      let ok = held' m.sender n.q n.held in
      record {
        top = omega (arith, ok.top, n.epoch);
        by = (ok.listed.0, subst (λ (z : ℕ). Listed (roll.list z) m.sender ok.listed.0) n.epoch ok.listed.1);
        sent = held_reached m.epoch _ n.q n.held (omega (arith, n.epoch));
        floor = omega (arith, n.floor);
        held = λ r' h _ k i. subst (λ (z : Replica). In k z.history) (same_held _ n.q r' n.held h) (n.marks k i);
        bound = λ k i. omega (arith, ok.floors k (n.marks k i), n.floor);
        round = λ t e. ⊎_elim
            (λ (w : Earlier g m t). let o = (s.messages w.it w.posted).round t w.round in (le_trans o.0 w.floor, le_trans o.1 (f.rises (roll.home t.node))))
            (λ z. let o = ok.phase t z in (omega (arith, o.2, n.floor), subst (λ (y : ℕ). t.time ≤ (g'.house y).floor) (sym o.1) o.2))
            (new_round roll g m n.q m.body t n.kind e);
        kind = new_kind roll g m n.q m.body n.kind;
      }

  low_epoch : (m : Message) → Lawful roll g m → 1 ≤ m.epoch
  low_epoch m l = ⊎_elim
      (λ (z : m.epoch < 1). absurd (s.good.none m.sender l.by.0 (subst (λ (z : ℕ). Listed (roll.list z) m.sender l.by.0) (zero_from z) l.by.1)))
      (λ z. z)
      (cases_lt m.epoch 1)
    where
      zero_from : m.epoch < 1 → m.epoch ≡ 0
      zero_from z = omega arith

  gone' : (x e : ℕ) → (g'.house x).slot ≡ Gone e → (1 ≤ e) × (e ≤ g'.top) × ((b : ℕ) → Listed (roll.list e) x b → ⊥)
  gone' x e is = ⊎_elim
      (λ was. let o = s.gone x e was in (o.0, le_trans o.1 f.top, o.2))
      (λ (w : (m : Message) × IsPosted g m × (m.body ≡ Leave) × (m.epoch ≡ e) × (m.receiver ≡ x)).
      let l = s.messages w.0 w.1 in
      let out : (b : ℕ) → Listed (roll.list (w.0).epoch) (w.0).receiver b → ⊥ = subst (λ (b : Body). Kind roll w.0 b) w.2 l.kind in (
        omega (arith, low_epoch w.0 l, w.3),
        omega (arith, l.top, f.top, w.3),
        λ b i. out b (subst (λ (z : ℕ). Listed (roll.list z) (w.0).receiver b) (sym w.3) (subst (λ (z : ℕ). Listed (roll.list e) z b) (sym w.4) i)),
      ))
      (f.gone x e is)

  -- any step keeps what is sound
  pub sound_kept : Sound roll g'
  sound_kept = record {
    good = f.good;
    present = f.present;
    held = held';
    gone = gone';
    messages = λ m at. ⊎_elim (λ was. lawful_old m (s.messages m was)) (lawful_new m) (f.posts m at);
    heads = λ e le. ⊎_elim (λ was. f.climbs (master_of (roll.list (suc e))) (suc e) (s.heads e was)) (λ up. up) (f.heads e le);
  }

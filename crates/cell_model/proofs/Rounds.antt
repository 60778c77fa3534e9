-- Each step keeps the rounds that run.
use Rattle.std.proofs.Common.{◌≡◌, ◌≢◌, ℕ, ◌≤◌, ◌⊎◌, inl, inr, Bool, true, false, eqb, List, [], ◌∷◌, Some, refl, sym, ◌∙◌, subst, arith, ⊎_elim, le_trans}
use Rattle.cds_stamps.specs.declared.stamp.Stamp.{Stamp}
use Rattle.directory.specs.Histories.{Mark}
use Rattle.cell_model.specs.Cells.{Phase, Idle, Gathering, Spreading, Replica, Copy, Gathered, Spread, SpreadAck, Message}
use Rattle.cell_model.specs.Commands.{Accepted}
use Rattle.cell_model.specs.Sets.{In, IsPart}
use Rattle.cell_model.specs.Turns.{running_skulk_stamp}
use Rattle.cell_model.proofs.Lists.{eq_from}
use Rattle.cell_model.proofs.Terms.{others}
use Rattle.cell_model.proofs.Facts.{View, IsPosted, Holds, Roll, Reached, Sound, Turn, same, idle, begins, answered, turned, acked, Past, grew, rose}
use Rattle.cell_model.proofs.Facts.{crowned, copied, founded, New, Frame}
use Rattle.cell_model.proofs.Bounds.{same_held, kind_at, round_at}
use Rattle.cell_model.proofs.SecondRound.{Spreads, spreads_kept}
use Rattle.cell_model.proofs.FirstRound.{Gathers, GatheredBy, Waits, gathers_kept, gathers_begin, spreads_begin}

-- what holds of a replica in its phase
abbrev pub Round : Roll → View → ℕ → Replica → Phase → Type 0
Round roll g h r Idle = Unit {0}
Round roll g h r (Gathering t a) = Gathers roll g h r t a
Round roll g h r (Spreading t a) = Spreads roll g h r t a

-- what holds of each replica in its phase
abbrev pub Rounds : Roll → View → Type 0
Rounds roll g = (h : ℕ) (r : Replica) → Holds g h r → Round roll g h r r.phase

round_as : (roll : Roll) (g : View) (h : ℕ) (r : Replica) (p q : Phase) → p ≡ q → Round roll g h r q → Round roll g h r p
round_as roll g h r p q e v = subst (λ (z : Phase). Round roll g h r z) (sym e) v

module _ (roll : Roll) (g g' : View) (new : List Accepted) (s : Sound roll g) (s' : Sound roll g') (f : Frame roll g g' new) (h : ℕ) (r r' : Replica)
    (at_h : Holds g h r) (at_h' : Holds g' h r') (epoch : r.epoch ≡ r'.epoch) (grows : IsPart r.history r'.history) where
  -- a new spread of the round of this house has its history
  said : (t : Stamp) → roll.home t.node ≡ h → (m : Message) (copy : Copy) → IsPosted g' m → m.body ≡ Spread t copy
      → IsPosted g m ⊎ IsPart r'.history copy.history
  said t node m copy at is = ⊎_elim (λ was. inl was)
      (λ (n : New roll g g' new m).
      let k = kind_at roll g g' new m (Spread t copy) n is in
      let by : m.sender ≡ h = sym ((s'.held m.sender n.q n.held).phase t (subst (λ (z : Phase). running_skulk_stamp z ≡ Some t) (sym k.0) refl)).1 ∙ node in
      let same_r = same_held _ n.q r' (subst (λ (z : ℕ). Holds g' z n.q) by n.held) at_h' in
      inr (subst (λ (z : Replica). IsPart z.history copy.history) same_r k.1))
      (f.posts m at)

  -- its phase stays as before
  round_same : (p : Phase) → r.phase ≡ p → r'.phase ≡ p → Round roll g h r p → Round roll g' h r' p
  round_same Idle e e' v = tt
  round_same (Gathering t a) e e' v =
      gathers_kept roll g g' new s s' f h r r' t a a at_h at_h' (subst (λ (z : Phase). running_skulk_stamp z ≡ Some t) (sym e) refl) epoch grows v
      (λ y i. inl i) v.heard (λ j y w. inr w.silent) (λ turn. cc)
  round_same (Spreading t a) e e' v =
      spreads_kept roll g g' new s s' f h r r' t a a at_h at_h' (subst (λ (z : Phase). running_skulk_stamp z ≡ Some t) (sym e) refl) epoch grows v
      (λ y i. inl i) v.heard
      (said t ((s.held h r at_h).phase t (subst (λ (z : Phase). running_skulk_stamp z ≡ Some t) (sym e) refl)).1)

  -- an answer that is taken
  module _ (t : Stamp) (a : List ℕ) (m : Message) (copy : Copy) (e : r.phase ≡ Gathering t a) (at : IsPosted g m) (is : m.body ≡ Gathered t copy)
      (sub : IsPart copy.history r'.history) (v : Gathers roll g h r t a) where
    runs : running_skulk_stamp r.phase ≡ Some t
    runs = subst (λ (z : Phase). running_skulk_stamp z ≡ Some t) (sym e) refl

    more : (y : ℕ) → In y (m.sender ∷ a) → GatheredBy g t a y
    more y i = ⊎_elim (λ q. inr (m, copy, at, sym q, is)) (λ o. inl o) i

    heard' : (y : ℕ) → In y (m.sender ∷ a) → (t.time ≤ (g.house y).floor) × Reached r.epoch (g.house y).slot
    heard' y i = ⊎_elim
        (λ q.
        let l = s.messages m at in
        let k = (s.held h r at_h).own t runs m at (round_at m (Gathered t copy) t is refl) in
        subst (λ (z : ℕ). (t.time ≤ (g.house z).floor) × Reached r.epoch (g.house z).slot) (sym q)
        (le_trans (l.round t (round_at m (Gathered t copy) t is refl)).0 l.floor, subst (λ (z : ℕ). Reached z (g.house m.sender).slot) k l.sent))
        (v.heard y) i

    gained : (j : Mark) (y : ℕ) → Waits roll g r.epoch t a j y → In j r'.history ⊎ (In y (m.sender ∷ a) → ⊥)
    gained j y w = one (eqb y m.sender) refl
      where
        one : (b : Bool) → eqb y m.sender ≡ b → In j r'.history ⊎ (In y (m.sender ∷ a) → ⊥)
        one true q = inl (sub j (w.told m copy at (sym (eq_from y m.sender q)) is))
        one false q = inr (λ i. ⊎_elim (λ z. let n : y ≢ m.sender = grind arith in n z) w.silent i)

    round_answered : r'.phase ≡ Gathering t (m.sender ∷ a) → Gathers roll g' h r' t (m.sender ∷ a)
    round_answered e' = gathers_kept roll g g' new s s' f h r r' t a (m.sender ∷ a) at_h at_h' runs epoch grows v more heard' gained (λ turn. cc)

    round_turned : r'.phase ≡ Spreading t [] → ((y : ℕ) → In y (others r.members) → In y (m.sender ∷ a)) → Spreads roll g' h r' t []
    round_turned e' all =
        spreads_begin roll g g' new s s' f h r r' t a (m.sender ∷ a) at_h at_h' runs epoch grows v more heard' gained
        (subst (λ (z : Phase). running_skulk_stamp z ≡ Some t) (sym e') refl) all

  -- an answer of the second round keeps what holds in that round
  pub round_acked : (t : Stamp) (a : List ℕ) (m : Message) → r.phase ≡ Spreading t a → IsPosted g m → m.body ≡ SpreadAck t → Spreads roll g h r t a
      → Spreads roll g' h r' t (m.sender ∷ a)
  round_acked t a m e at is v =
      spreads_kept roll g g' new s s' f h r r' t a (m.sender ∷ a) at_h at_h' runs epoch grows v
      (λ y i. ⊎_elim (λ q. inr (m, at, sym q, is)) (λ o. inl o) i)
      (λ y i. ⊎_elim
      (λ q. let k = (s.held h r at_h).own t runs m at (round_at m (SpreadAck t) t is refl) in
      subst (λ (z : ℕ). Reached r.epoch (g.house z).slot) (sym q) (subst (λ (z : ℕ). Reached z (g.house m.sender).slot) k (s.messages m at).sent))
      (v.heard y) i)
      (said t ((s.held h r at_h).phase t runs).1)
    where
      runs : running_skulk_stamp r.phase ≡ Some t
      runs = subst (λ (z : Phase). running_skulk_stamp z ≡ Some t) (sym e) refl

  round_turn : Turn roll g h (g'.house h).floor r r' → Round roll g h r r.phase → Round roll g' h r' r'.phase
  round_turn (same e) v = round_as roll g' h r' r'.phase r.phase e (round_same r.phase refl e v)
  round_turn (idle e) v = round_as roll g' h r' r'.phase Idle e tt
  round_turn (begins t e head node low _ _) v = round_as roll g' h r' r'.phase (Gathering t []) e (gathers_begin roll g g' new h r' t s s' f at_h' node low e)
  round_turn (answered t a m copy e e' at is sub) v =
      round_as roll g' h r' r'.phase (Gathering t (m.sender ∷ a)) e'
      (round_answered t a m copy e at is sub (round_as roll g h r (Gathering t a) r.phase (sym e) v) e')
  round_turn (turned t a m copy e e' at is sub all) v =
      round_as roll g' h r' r'.phase (Spreading t []) e' (round_turned t a m copy e at is sub (round_as roll g h r (Gathering t a) r.phase (sym e) v) e' all)
  round_turn (acked t a m e e' at is) v =
      round_as roll g' h r' r'.phase (Spreading t (m.sender ∷ a)) e' (round_acked t a m e at is (round_as roll g h r (Spreading t a) r.phase (sym e) v))

-- any step keeps what holds of the rounds that run
pub rounds_kept : (roll : Roll) (g g' : View) (new : List Accepted) → Sound roll g → Sound roll g' → Frame roll g g' new → Rounds roll g → Rounds roll g'
rounds_kept roll g g' new s s' f v h r' at_h' = go (f.past h r' at_h')
  where
    go : Past roll g g' h (g'.house h).floor r' → Round roll g' h r' r'.phase
    go (grew r at_h e _ sub st) = round_turn roll g g' new s s' f h r r' at_h at_h' e sub st (v h r at_h)
    go (rose _ _ _ _ _ _ _ _ _ took) = round_as roll g' h r' r'.phase Idle took.idle tt
    go (crowned _ _ _ _ _ _ _ _ _ i) = round_as roll g' h r' r'.phase Idle i tt
    go (copied _ _ _ _ _ _ took) = round_as roll g' h r' r'.phase Idle took.idle tt
    go (founded _ _ _ _ _ i) = round_as roll g' h r' r'.phase Idle i tt

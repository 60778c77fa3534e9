-- What the messages of a skulk bring about, if each is delivered.
use Rattle.std.proofs.Common.{◌≡◌, ℕ, inl, true, List, [], ◌∷◌, ◌++◌, Some, refl, sym, ap, ◌∙◌, subst}
use Rattle.cds_stamps.specs.declared.stamp.Stamp.{Stamp}
use Rattle.cds_stamps.specs.Members.{is_listed}
use Rattle.cell_model.specs.Bodies.{round_of}
use Rattle.cell_model.specs.Cells.{Replica, Held, House, Copy, Body, Gather, Gathered, Spread, SpreadAck, Advance, Message, Cell, IsHeld}
use Rattle.cell_model.specs.Commands as commands
use Rattle.cell_model.specs.Commands.{Command}
use Rattle.cell_model.specs.Sets.{In, IsPart}
use Rattle.cell_model.specs.Turns.{copy_of, merge_copy, later_up_to, take_and_answer, reply, floor_after, take}
use Rattle.cell_model.specs.Steps.{outcome, replay}
use Rattle.cell_model.proofs.Lists.{In-append_right}
use Rattle.cell_model.proofs.Passages.{slot_after}
use Rattle.cell_model.proofs.Rows.{Own}
use Rattle.cell_model.proofs.Runs.{roll_of}
use Rattle.fair_runs.specs.Fairness.{IsUndisturbed, IsDelivered, IsFair}
use Rattle.fair_runs.specs.Converging.{IsAllUpTo}
use Rattle.fair_runs.proofs.UpTos.{raised}
use Rattle.fair_runs.proofs.Phases.{Asked}
use Rattle.fair_runs.proofs.Takes.{gather_take, spread_take, advance_take, delivered}
use Rattle.fair_runs.proofs.Begun.{Questioned}
use Rattle.fair_runs.proofs.Prefixes.{one_more, cell_next}
use Rattle.fair_runs.proofs.Courses as courses

-- an answer of the house y to the first round is delivered to the master h
pub record Reply (start late : List Command) (h d k : ℕ) (t : Stamp) (y : ℕ) : Type 0 where
  pub letter : Message
  pub copy : Copy
  pub dir : letter.dir ≡ d
  pub receiver : letter.receiver ≡ h
  pub sender : letter.sender ≡ y
  pub epoch : letter.epoch ≡ k
  pub body : letter.body ≡ Gathered t copy
  pub arrives : IsDelivered start late letter

-- and one to the second
pub record Ack (start late : List Command) (h d k : ℕ) (t : Stamp) (y : ℕ) : Type 0 where
  pub letter : Message
  pub dir : letter.dir ≡ d
  pub receiver : letter.receiver ≡ h
  pub sender : letter.sender ≡ y
  pub epoch : letter.epoch ≡ k
  pub body : letter.body ≡ SpreadAck t
  pub arrives : IsDelivered start late letter

module _ (start late : List Command) (h d k : ℕ) (t : Stamp) (calm : IsUndisturbed start late h d k t) (fair : IsFair start late d t) where
  -- the master is listed in its epoch
  pub master_listed : (past left : List Command) → past ++ left ≡ late → is_listed h ((roll_of d (start ++ late)).list k) ≡ true
  master_listed past left e =
      let here = calm past left e in
      let ok = (courses.reached start late h d k t calm past left e).sound.held h here.replica here.held in
      subst (λ (z : ℕ). is_listed h ((roll_of d (start ++ late)).list z) ≡ true) here.epoch ok.listed.1.0

  -- an answer that a delivery posts is delivered
  comes : (past left : List Command) (n : ℕ) (z : Message) → past ++ commands.Deliver n ∷ left ≡ late → z.dir ≡ d → round_of z.body ≡ Some t
      → In z (outcome (replay (start ++ past)) (commands.Deliver n)).cell.bag → IsDelivered start late z
  comes past left n z e dir round i =
      let c : Command = commands.Deliver n in
      let i' = subst (λ (g : Cell). In z g.bag) (sym (cell_next start past c)) i in
      fair z (courses.ends_posted start late h d k t calm left (past ++ c ∷ []) (one_more past left late c e) z dir i') dir round

  -- an answer that was posted, and is delivered to the master
  pub record Answer (from : ℕ) (b : Replica → Body) : Type 0 where
    pub letter : Message
    pub sent : Replica
    pub comes_there : IsDelivered start late letter
    pub dir : letter.dir ≡ d
    pub receiver : letter.receiver ≡ h
    pub sender : letter.sender ≡ from
    pub epoch : letter.epoch ≡ k
    pub body : letter.body ≡ b sent

  -- a house that is asked answers, and its answer is delivered
  answer_to : (m : Message) (ask : Body) (b : Replica → Body) (R : Replica → Replica)
      → ((now : House) (q : Replica) → Own now m ask q → take now m ≡ take_and_answer now m (Held (R q)) (reply now m (b q)))
      → ((q : Replica) → round_of (b q) ≡ Some t) → m.dir ≡ d → m.sender ≡ h → m.epoch ≡ k → m.body ≡ ask → IsDelivered start late m → Answer m.receiver b
  answer_to m ask b R took round dir from epoch body w =
      let g : Cell = replay (start ++ w.past) in
      let now : House = g.house m.receiver in
      let held : IsHeld g m.receiver d w.replica = subst (λ (v : ℕ). IsHeld g m.receiver v w.replica) dir w.held in
      let list = courses.listed start late h d k t calm w.past (commands.Deliver w.serial ∷ w.left) w.parts m.receiver w.replica held (w.epoch ∙ epoch) in
      let own : Own now m ask w.replica = record {
        is = body;
        held = w.held;
        epoch = sym w.epoch;
        member = ap (λ (v : ℕ). is_listed v w.replica.members) from ∙ ap (is_listed h) list
            ∙ master_listed w.past (commands.Deliver w.serial ∷ w.left) w.parts;
      } in
      let z : Message = record {
        receiver = m.sender;
        dir = m.dir;
        sender = m.receiver;
        epoch = m.epoch;
        floor = floor_after now m;
        body = b w.replica;
      } in
      let after = delivered (replay (start ++ w.past)) w.serial m _ w.message w.up (took now w.replica own) in
      let i = subst (λ (o : Cell). In z o.bag) (ap (λ o. o.cell) (sym after)) (In-append_right z g.bag (z ∷ []) (inl refl)) in
      record {
        letter = z;
        sent = w.replica;
        comes_there = comes w.past w.left w.serial z w.parts dir (round w.replica) i;
        dir = dir;
        receiver = from;
        sender = refl;
        epoch = epoch;
        body = refl;
      }

  -- what a house holds after it took the question of the second round: all that this brought
  pub spread_after : (m : Message) (copy : Copy) → m.dir ≡ d → m.sender ≡ h → m.epoch ≡ k → m.body ≡ Spread t copy → (w : IsDelivered start late m)
      → (R : Replica) × IsHeld (replay (start ++ (w.past ++ commands.Deliver w.serial ∷ []))) m.receiver d R × (R.epoch ≡ k)
      × IsPart copy.history R.history
  spread_after m copy dir from epoch body w =
      let g : Cell = replay (start ++ w.past) in
      let now : House = g.house m.receiver in
      let held : IsHeld g m.receiver d w.replica = subst (λ (v : ℕ). IsHeld g m.receiver v w.replica) dir w.held in
      let list = courses.listed start late h d k t calm w.past (commands.Deliver w.serial ∷ w.left) w.parts m.receiver w.replica held (w.epoch ∙ epoch) in
      let own : Own now m (Spread t copy) w.replica = record {
        is = body;
        held = w.held;
        epoch = sym w.epoch;
        member = ap (λ (v : ℕ). is_listed v w.replica.members) from ∙ ap (is_listed h) list
            ∙ master_listed w.past (commands.Deliver w.serial ∷ w.left) w.parts;
      } in
      let R : Replica = merge_copy w.replica copy in
      let after = delivered (replay (start ++ w.past)) w.serial m _ w.message w.up (spread_take now m t copy w.replica own) in
      let there = subst (λ (c : Cell). IsHeld c m.receiver m.dir R) (ap (λ o. o.cell) (sym after))
      (slot_after g m.receiver m.dir (floor_after now m) (Held R)) in
      let there' = subst (λ (x : ℕ). IsHeld (outcome g (commands.Deliver w.serial)).cell m.receiver x R) dir there in (
        R,
        subst (λ (c : Cell). IsHeld c m.receiver d R) (sym (cell_next start w.past (commands.Deliver w.serial))) there',
        w.epoch ∙ epoch,
        λ j i. In-append_right j w.replica.history copy.history i,
      )

  -- and after it took that the skulk is complete: its AllUpTo is the stamp or later
  pub advance_after : (m : Message) → m.dir ≡ d → m.sender ≡ h → m.epoch ≡ k → m.body ≡ Advance t → (w : IsDelivered start late m)
      → (R : Replica) × IsHeld (replay (start ++ (w.past ++ commands.Deliver w.serial ∷ []))) m.receiver d R × (R.epoch ≡ k) × IsAllUpTo t R.all_up_to
  advance_after m dir from epoch body w =
      let g : Cell = replay (start ++ w.past) in
      let now : House = g.house m.receiver in
      let held : IsHeld g m.receiver d w.replica = subst (λ (v : ℕ). IsHeld g m.receiver v w.replica) dir w.held in
      let list = courses.listed start late h d k t calm w.past (commands.Deliver w.serial ∷ w.left) w.parts m.receiver w.replica held (w.epoch ∙ epoch) in
      let own : Own now m (Advance t) w.replica = record {
        is = body;
        held = w.held;
        epoch = sym w.epoch;
        member = ap (λ (v : ℕ). is_listed v w.replica.members) from ∙ ap (is_listed h) list
            ∙ master_listed w.past (commands.Deliver w.serial ∷ w.left) w.parts;
      } in
      let R : Replica = record w.replica { all_up_to = later_up_to w.replica.all_up_to t } in
      let after = delivered (replay (start ++ w.past)) w.serial m _ w.message w.up (advance_take now m t w.replica own) in
      let there = subst (λ (c : Cell). IsHeld c m.receiver m.dir R) (ap (λ o. o.cell) (sym after))
      (slot_after g m.receiver m.dir (floor_after now m) (Held R)) in
      let there' = subst (λ (x : ℕ). IsHeld (outcome g (commands.Deliver w.serial)).cell m.receiver x R) dir there in (
        R,
        subst (λ (c : Cell). IsHeld c m.receiver d R) (sym (cell_next start w.past (commands.Deliver w.serial))) there',
        w.epoch ∙ epoch,
        raised t w.replica.all_up_to,
      )

  -- each other member answers the first round, if it was asked
  pub reply_of : (y : ℕ) → Questioned (replay (start ++ [])) h d k t y → Reply start late h d k t y
  reply_of y q =
      let a : Answer q.message.receiver (λ r. Gathered t (copy_of r)) = answer_to q.message (Gather t) (λ r. Gathered t (copy_of r)) (λ r. r)
      (λ now r own. gather_take now q.message t r own) (λ r. refl) q.dir q.sender q.epoch q.body
      (fair q.message (courses.ends_posted start late h d k t calm late [] refl q.message q.dir q.posted) q.dir (ap round_of q.body)) in
      record {
        letter = a.letter;
        copy = copy_of a.sent;
        dir = a.dir;
        receiver = a.receiver;
        sender = a.sender ∙ q.receiver;
        epoch = a.epoch;
        body = a.body;
        arrives = a.comes_there;
      }

  -- and the second
  pub ack_of : (full : Replica) (y : ℕ) → Asked (replay (start ++ late)) h d k t y full → Ack start late h d k t y
  ack_of full y q =
      let a : Answer q.message.receiver (λ r. SpreadAck t) = answer_to q.message (Spread t q.copy) (λ r. SpreadAck t) (λ r. merge_copy r q.copy)
      (λ now r own. spread_take now q.message t q.copy r own) (λ r. refl) q.dir q.sender q.epoch q.body (fair q.message q.posted q.dir (ap round_of q.body)) in
      record {
        letter = a.letter;
        dir = a.dir;
        receiver = a.receiver;
        sender = a.sender ∙ q.receiver;
        epoch = a.epoch;
        body = a.body;
        arrives = a.comes_there;
      }

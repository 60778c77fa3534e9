-- A skulk that nothing disturbs is complete exactly if each other member is heard in each round.
use Rattle.std.proofs.Common.{◌≡◌, ℕ, ◌⊎◌, inl, inr, ◌||◌, eqb, true, List, [], ◌∷◌, ◌++◌, Some, refl, sym, ap, ◌∙◌, subst, append_assoc}
use Rattle.cds_stamps.specs.declared.stamp.Stamp.{Stamp}
use Rattle.cds_stamps.specs.Members.{Member, others_of}
use Rattle.cell_model.specs.Bodies.{round_of}
use Rattle.cell_model.specs.Cells.{Replica, Held, Body, Gather, Gathered, SpreadAck, Message, Cell, IsHeld, empty_cell}
use Rattle.cell_model.specs.Commands as commands
use Rattle.cell_model.specs.Commands.{Command}
use Rattle.cell_model.specs.Sets.{In, has}
use Rattle.cell_model.specs.Steps.{message_at, outcome, replay}
use Rattle.cell_model.proofs.Lists.{append_nil}
use Rattle.cell_model.proofs.Facts.{view}
use Rattle.cell_model.proofs.Views.{In-of_dir, In-from_dir}
use Rattle.cell_model.proofs.Moves.{message_posted}
use Rattle.cell_model.proofs.Passages.{passage_stays}
use Rattle.cell_model.proofs.Runs.{replay-append, roll_of, step_passage, reaching_at}
use Rattle.fair_runs.specs.Fairness.{Begins, IsUndisturbed, IsDelivered, IsComplete}
use Rattle.fair_runs.specs.Needs.{WasDelivered, HasAnswered, IsHeard, SkulksEndIfHeard}
use Rattle.fair_runs.proofs.Courses as courses
use Rattle.fair_runs.proofs.Letters.{Reply, Ack}
use Rattle.fair_runs.proofs.Endings as endings
use Rattle.fair_runs.proofs.Needs.{skulk_needs_lem}

-- a place of two lists together is in the second, or in the first
split : (past left start late : List Command) (c : Command) → past ++ c ∷ left ≡ start ++ late
    → ((mid : List Command) × (past ≡ start ++ mid) × (mid ++ c ∷ left ≡ late)) ⊎ ((rest : List Command) × (past ++ c ∷ rest ≡ start))
split past left [] late c e = inl (past, refl, e)
split [] left (x ∷ xs) late c e =
    let z : c ∷ left ≡ x ∷ (xs ++ late) = e in
    let head : c ≡ x = cc in inr (xs, ap (λ (v : Command). v ∷ xs) head)
split (y ∷ past) left (x ∷ xs) late c e = by_rest (split past left xs late c tail)
  where
    head : y ≡ x
    head = let z : y ∷ (past ++ c ∷ left) ≡ x ∷ (xs ++ late) = e in cc

    tail : past ++ c ∷ left ≡ xs ++ late
    tail = let z : y ∷ (past ++ c ∷ left) ≡ x ∷ (xs ++ late) = e in cc

    by_rest : ((mid : List Command) × (past ≡ xs ++ mid) × (mid ++ c ∷ left ≡ late)) ⊎ ((rest : List Command) × (past ++ c ∷ rest ≡ xs))
        → ((mid : List Command) × (y ∷ past ≡ x ∷ (xs ++ mid)) × (mid ++ c ∷ left ≡ late)) ⊎ ((rest : List Command) × (y ∷ (past ++ c ∷ rest) ≡ x ∷ xs))
    by_rest (inl w) = inl (w.0, ap (λ (v : Command). v ∷ past) head ∙ ap (λ (l : List Command). x ∷ l) w.1, w.2)
    by_rest (inr w) = inr (w.0, ap (λ (v : Command). v ∷ (past ++ c ∷ w.0)) head ∙ ap (λ (l : List Command). x ∷ l) w.1)

-- what was posted stays
posted_on : (cs past : List Command) (m : Message) → In m (replay past).bag → In m (replay (past ++ cs)).bag
posted_on [] past m i = subst (λ (l : List Command). In m (replay l).bag) (sym (append_nil past)) i
posted_on (c ∷ cs) past m i =
    let g : Cell = replay past in
    let p = step_passage m.dir (past ++ c ∷ cs) past cs c refl (reaching_at m.dir (past ++ c ∷ cs) past (c ∷ cs) refl) in
    let i' = passage_stays (roll_of m.dir (past ++ c ∷ cs)) (view m.dir g) (view m.dir (outcome g c).cell) (outcome g c).accepted p m
    (In-of_dir m.dir g.bag m i refl) in
    let next = subst (λ (z : Cell). In m z.bag) (sym (replay-append past (c ∷ []) empty_cell)) (In-from_dir m.dir (outcome g c).cell.bag m i').0 in
    subst (λ (l : List Command). In m (replay l).bag) (append_assoc past (c ∷ []) cs) (posted_on cs (past ++ c ∷ []) m next)

module _ (early late : List Command) (h d : ℕ) (t : Stamp) (r : Replica) (b : Begins early h d t r)
    (calm : IsUndisturbed (early ++ commands.Skulk h d ∷ []) late h d r.epoch t) where
  -- what comes to the master is of its epoch
  epoch_is : (m : Message) → m.dir ≡ d → m.receiver ≡ h → (w : IsDelivered (early ++ commands.Skulk h d ∷ []) late m) → m.epoch ≡ r.epoch
  epoch_is m dir to w =
      let g : Cell = replay ((early ++ commands.Skulk h d ∷ []) ++ w.past) in
      let here = calm w.past (commands.Deliver w.serial ∷ w.left) w.parts in
      let held = subst (λ (x : ℕ). IsHeld g h x w.replica) dir (subst (λ (x : ℕ). IsHeld g x m.dir w.replica) to w.held) in
      let slots : Held w.replica ≡ Held here.replica = sym held ∙ here.held in
      let same : w.replica ≡ here.replica = cc in sym w.epoch ∙ ap (λ (z : Replica). z.epoch) same ∙ here.epoch

  reply_from : (y : ℕ) → IsHeard (early ++ commands.Skulk h d ∷ []) late d h y t → Reply (early ++ commands.Skulk h d ∷ []) late h d r.epoch t y
  reply_from y w = record {
    letter = w.gathered.message;
    copy = w.copy;
    dir = w.gathered.dir;
    receiver = w.gathered.receiver;
    sender = w.gathered.sender;
    epoch = epoch_is w.gathered.message w.gathered.dir w.gathered.receiver w.gathered.delivered;
    body = w.gathered.body;
    arrives = w.gathered.delivered;
  }

  ack_from : (y : ℕ) → IsHeard (early ++ commands.Skulk h d ∷ []) late d h y t → Ack (early ++ commands.Skulk h d ∷ []) late h d r.epoch t y
  ack_from y w = record {
    letter = w.ack.message;
    dir = w.ack.dir;
    receiver = w.ack.receiver;
    sender = w.ack.sender;
    epoch = epoch_is w.ack.message w.ack.dir w.ack.receiver w.ack.delivered;
    body = w.ack.body;
    arrives = w.ack.delivered;
  }

  -- the other members of the list
  listed : (y : ℕ) → In y (others_of h ((roll_of d ((early ++ commands.Skulk h d ∷ []) ++ late)).list r.epoch)) → In y (others_of h r.members)
  listed y i = subst (λ (l : List Member). In y (others_of h l)) (sym (endings.members_0 early late h d t r b calm)) i

  enough : ((y : ℕ) → In y (others_of h r.members) → IsHeard (early ++ commands.Skulk h d ∷ []) late d h y t)
      → IsComplete (early ++ commands.Skulk h d ∷ []) late h d t
  enough all =
      endings.ends_if_heard early late h d t r b calm (λ y i. reply_from y (all y (listed y i))) (λ full asked y i. ack_from y (all y (listed y i)))

  -- an answer of the skulk that was delivered was so after its start
  in_late : (y : ℕ) (body : Body) → round_of body ≡ Some t → (body ≡ Gather t → ⊥) → WasDelivered [] ((early ++ commands.Skulk h d ∷ []) ++ late) d y h body
      → WasDelivered (early ++ commands.Skulk h d ∷ []) late d y h body
  in_late y body round other w =
      by_place (split w.delivered.past w.delivered.left (early ++ commands.Skulk h d ∷ []) late (commands.Deliver w.delivered.serial) w.delivered.parts)
    where
      start : List Command
      start = early ++ commands.Skulk h d ∷ []

      posted : In w.message (replay w.delivered.past).bag
      posted = message_posted (replay w.delivered.past) w.delivered.serial
          ((eqb w.delivered.serial 0) || has w.delivered.serial (replay w.delivered.past).lost) w.message w.delivered.message

      by_place : ((mid : List Command) × (w.delivered.past ≡ (early ++ commands.Skulk h d ∷ []) ++ mid) × (mid ++ commands.Deliver w.delivered.serial ∷ w.delivered.left ≡ late))
          ⊎ ((rest : List Command) × (w.delivered.past ++ commands.Deliver w.delivered.serial ∷ rest ≡ early ++ commands.Skulk h d ∷ []))
          → WasDelivered (early ++ commands.Skulk h d ∷ []) late d y h body
      by_place (inl m) = record {
        message = w.message;
        dir = w.dir;
        sender = w.sender;
        receiver = w.receiver;
        body = w.body;
        delivered = record {
          past = m.0;
          serial = w.delivered.serial;
          left = w.delivered.left;
          parts = m.2;
          message = subst (λ (l : List Command). message_at (replay l) w.delivered.serial ≡ Some w.message) m.1 w.delivered.message;
          up = subst (λ (l : List Command). ((replay l).house w.message.receiver).up ≡ true) m.1 w.delivered.up;
          replica = w.delivered.replica;
          held = subst (λ (l : List Command). IsHeld (replay l) w.message.receiver w.message.dir w.delivered.replica) m.1 w.delivered.held;
          epoch = w.delivered.epoch;
        };
      }
      by_place (inr m) =
          let there = posted_on (commands.Deliver w.delivered.serial ∷ m.0) w.delivered.past w.message posted in
          let at_start = subst (λ (l : List Command). In w.message (replay l).bag) (m.1 ∙ sym (append_nil (early ++ commands.Skulk h d ∷ []))) there in
          absurd (other (sym w.body
          ∙ endings.only_questions early late h d t r b calm w.message at_start w.dir (ap round_of w.body ∙ round)))

  -- what was delivered of the first commands was of all
  of_more : (some rest all : List Command) (y : ℕ) (body : Body) → some ++ rest ≡ all → WasDelivered [] some d y h body → WasDelivered [] all d y h body
  of_more some rest all y body e w = record {
    message = w.message;
    dir = w.dir;
    sender = w.sender;
    receiver = w.receiver;
    body = w.body;
    delivered = record {
      past = w.delivered.past;
      serial = w.delivered.serial;
      left = w.delivered.left ++ rest;
      parts = sym (append_assoc w.delivered.past (commands.Deliver w.delivered.serial ∷ w.delivered.left) rest)
          ∙ ap (λ (l : List Command). l ++ rest) w.delivered.parts ∙ e;
      message = w.delivered.message;
      up = w.delivered.up;
      replica = w.delivered.replica;
      held = w.delivered.held;
      epoch = w.delivered.epoch;
    };
  }

  needed : IsComplete (early ++ commands.Skulk h d ∷ []) late h d t → (y : ℕ) → In y (others_of h r.members)
      → IsHeard (early ++ commands.Skulk h d ∷ []) late d h y t
  needed c y i =
      let start : List Command = early ++ commands.Skulk h d ∷ [] in
      let here = calm c.past (commands.Deliver c.serial ∷ c.left) c.parts in
      let list = courses.listed (early ++ commands.Skulk h d ∷ []) late h d r.epoch t calm c.past (commands.Deliver c.serial ∷ c.left) c.parts h here.replica
      here.held here.epoch in
      let i' = subst (λ (l : List Member). In y (others_of h l)) (endings.members_0 early late h d t r b calm ∙ sym list) i in
      let w : HasAnswered (((early ++ commands.Skulk h d ∷ []) ++ c.past) ++ commands.Deliver c.serial ∷ []) d h y t =
      skulk_needs_lem ((early ++ commands.Skulk h d ∷ []) ++ c.past) (commands.Deliver c.serial) h d here.replica t c.serials c.answer c.place here.held y i' in
      let some : List Command = ((early ++ commands.Skulk h d ∷ []) ++ c.past) ++ commands.Deliver c.serial ∷ [] in
      let all : List Command = (early ++ commands.Skulk h d ∷ []) ++ late in
      let e : some ++ c.left ≡ all =
      append_assoc ((early ++ commands.Skulk h d ∷ []) ++ c.past) (commands.Deliver c.serial ∷ []) c.left
      ∙ append_assoc (early ++ commands.Skulk h d ∷ []) c.past (commands.Deliver c.serial ∷ c.left)
      ∙ ap (λ (l : List Command). (early ++ commands.Skulk h d ∷ []) ++ l) c.parts in
      record {
        copy = w.first;
        gathered = in_late y (Gathered t w.first) refl (λ z. let same : Gathered t w.first ≡ Gather t = z in cc)
            (of_more some c.left all y (Gathered t w.first) e w.gathered);
        ack = in_late y (SpreadAck t) refl (λ z. let same : SpreadAck t ≡ Gather t = z in cc) (of_more some c.left all y (SpreadAck t) e w.ack);
      }

-- of any list of commands
pub skulks_end_if_heard_lem : (early late : List Command) → SkulksEndIfHeard early late
skulks_end_if_heard_lem early late h d t r b calm = (needed early late h d t r b calm, enough early late h d t r b calm)

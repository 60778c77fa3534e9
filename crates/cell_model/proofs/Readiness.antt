-- A member list whose houses are ready for a skulk, and what its master and the others do at the
-- skulk's messages.
use Rattle.std.proofs.Common.{◌≡◌, ◌≢◌, ℕ, Bool, true, false, cond, List, [], ◌∷◌, sym, ap, ◌∙◌, subst, arith, nat_lt}
use Rattle.std.specs.Ordering.{is_eq}
use Rattle.std.proofs.lemmas.Cmp.{tied_itself}
use Rattle.cds_stamps.specs.declared.stamp.Stamp.{Stamp}
use Rattle.cds_stamps.specs.Members.{Member, others_of, is_listed}
use Rattle.cds_stamps.specs.Stamps.{is_stamp, stamp_total}
use Rattle.cell_model.specs.Cells.{Idle, Gathering, Spreading, Replica, Held, House, Copy, Body, Gather, Gathered, Spread, SpreadAck}
use Rattle.cell_model.specs.Cells.{Advance, Message, Cell, IsHeld}
use Rattle.cell_model.specs.Commands.{Late, Early, Foreign, Complete}
use Rattle.cell_model.specs.Turns.{HouseStep, Stays, with_slot, copy_of, merge_copy, later_up_to, takes, take_and_answer, reply, to_others, all_answered, stale}
use Rattle.cell_model.specs.Turns.{take_gathered_answer, take_gathered, spread, take_ack, take_own, take_other, take}
use Rattle.cell_model.specs.Steps.{move_house}
use Rattle.cell_model.proofs.Views.{put_at, put_same, put_other, put_back}

-- each house of the list is up, and holds the directory at epoch k with this list
pub record Ready (d k : ℕ) (ms : List Member) (g : Cell) : Type 0 where
  pub up : (x : ℕ) → is_listed x ms ≡ true → (g.house x).up ≡ true
  pub holds : (x : ℕ) → is_listed x ms ≡ true → (r : Replica) × IsHeld g x d r × (r.epoch ≡ k) × (r.members ≡ ms)

-- a house with another floor and another replica of the directory, and messages posted
abbrev pub changed : Cell → (h d floor : ℕ) → Replica → List Message → Cell
changed g h d floor r posts = move_house g h (with_slot (g.house h) d floor (Held r)) posts

-- a message about the directory, of epoch k
abbrev pub letter : (d k receiver sender floor : ℕ) → Body → Message
letter d k x y floor body = record { receiver = x; dir = d; sender = y; epoch = k; floor = floor; body = body }

-- the house holds that replica
pub held_here : (g : Cell) (h d floor : ℕ) (r : Replica) (posts : List Message) → IsHeld (changed g h d floor r posts) h d r
held_here g h d floor r posts =
    put_back (λ (y : House). y.slots d ≡ Held r) g.house h (with_slot (g.house h) d floor (Held r)) (put_same (g.house h).slots d (Held r))

-- another house holds what it held
pub held_there : (g : Cell) (h d floor : ℕ) (r : Replica) (posts : List Message) (x : ℕ) (q : Replica) → x ≢ h → IsHeld g x d q
    → IsHeld (changed g h d floor r posts) x d q
held_there g h d floor r posts x q apart at =
    subst (λ (y : House). y.slots d ≡ Held q) (sym (put_other g.house h (with_slot (g.house h) d floor (Held r)) x apart)) at

-- the houses stay ready where the new replica has that epoch and that list
pub ready_changed : (d k : ℕ) (ms : List Member) (g : Cell) (h floor : ℕ) (r : Replica) (posts : List Message) → Ready d k ms g → r.epoch ≡ k → r.members ≡ ms
    → Ready d k ms (changed g h d floor r posts)
ready_changed d k ms g h floor r posts s epoch members =
    let now : House = with_slot (g.house h) d floor (Held r) in
    record {
      up = put_at (λ x (y : House). is_listed x ms ≡ true → y.up ≡ true) g.house h now (λ l. s.up h l) (λ x _ l. s.up x l);
      holds = put_at (λ x (y : House). is_listed x ms ≡ true → (q : Replica) × (y.slots d ≡ Held q) × (q.epoch ≡ k) × (q.members ≡ ms)) g.house h now
          (λ l. (r, put_same (g.house h).slots d (Held r), epoch, members)) (λ x _ l. s.holds x l);
    }

-- ---- messages of the epoch that is held

pub own_held : (now : House) (z : Message) (b : Body) (r : Replica) → z.epoch ≡ r.epoch → is_listed z.sender r.members ≡ true
    → take_other now z b (Held r) ≡ take_own now z r b
own_held now z b r e l =
    let not_late : nat_lt z.epoch r.epoch ≡ false = grind arith in
    let not_early : nat_lt r.epoch z.epoch ≡ false = grind arith in
    let own : HouseStep = take_own now z r b in
    ap (λ (c : Bool). cond c (Stays (Late z.epoch r.epoch))
    (cond (nat_lt r.epoch z.epoch) (Stays (Early z.epoch r.epoch)) (cond (is_listed z.sender r.members) own (Stays Foreign)))) not_late
    ∙ ap (λ (c : Bool). cond c (Stays (Early z.epoch r.epoch)) (cond (is_listed z.sender r.members) own (Stays Foreign))) not_early
    ∙ ap (λ (c : Bool). cond c own (Stays Foreign)) l

-- a message of the epoch that the house holds, from a member, is taken as one of its own
own_taken : (now : House) (z : Message) (b : Body) (r : Replica) → now.slots z.dir ≡ Held r → z.epoch ≡ r.epoch → is_listed z.sender r.members ≡ true
    → take_other now z b (now.slots z.dir) ≡ take_own now z r b
own_taken now z b r at e l = ap (take_other now z b) at ∙ own_held now z b r e l

same_stamp : (t : Stamp) → is_stamp t t ≡ true
same_stamp t = ap is_eq (tied_itself stamp_total t)

module _ (d k : ℕ) (ms : List Member) where
  -- to a Gather a house of the list answers with all that it has
  pub gather_taken : (m : ℕ) (t : Stamp) (now : House) (y floor : ℕ) (r : Replica) → is_listed m ms ≡ true → now.slots d ≡ Held r → r.epoch ≡ k
      → r.members ≡ ms → take now (letter d k y m floor (Gather t))
      ≡ take_and_answer now (letter d k y m floor (Gather t)) (Held r) (reply now (letter d k y m floor (Gather t)) (Gathered t (copy_of r)))
  gather_taken m t now y floor r listed at e l = own_taken now (letter d k y m floor (Gather t)) (Gather t) r at (sym e) (ap (is_listed m) l ∙ listed)

  -- to a Spread it answers that it has it
  pub spread_taken : (m : ℕ) (t : Stamp) (copy : Copy) (now : House) (y floor : ℕ) (r : Replica) → is_listed m ms ≡ true → now.slots d ≡ Held r
      → r.epoch ≡ k → r.members ≡ ms → take now (letter d k y m floor (Spread t copy))
      ≡ take_and_answer now (letter d k y m floor (Spread t copy)) (Held (merge_copy r copy)) (reply now (letter d k y m floor (Spread t copy)) (SpreadAck t))
  spread_taken m t copy now y floor r listed at e l =
      own_taken now (letter d k y m floor (Spread t copy)) (Spread t copy) r at (sym e) (ap (is_listed m) l ∙ listed)

  -- the master counts an answer of the first round: its test is whether all have answered
  pub answer_taken : (m : ℕ) (t : Stamp) (copy : Copy) (a : List ℕ) (now : House) (y floor : ℕ) (q : Replica) (b : Bool) → is_listed y ms ≡ true
      → now.slots d ≡ Held q → q.epoch ≡ k → q.members ≡ ms → q.phase ≡ Gathering t a → all_answered (others_of m ms) (y ∷ a) ≡ b
      → take now (letter d k m y floor (Gathered t copy))
      ≡ cond b
      (take_and_answer now (letter d k m y floor (Gathered t copy)) (Held (record (merge_copy q copy) { phase = Spreading t [] }))
      (to_others now (letter d k m y floor (Gathered t copy)) q (Spread t (copy_of (merge_copy q copy)))))
      (take_and_answer now (letter d k m y floor (Gathered t copy)) (Held (record (merge_copy q copy) { phase = Gathering t (y ∷ a) })) [])
  answer_taken m t copy a now y floor q b listed at e l run all =
      let z : Message = letter d k m y floor (Gathered t copy) in
      let last : HouseStep = take_and_answer now z (Held (record (merge_copy q copy) { phase = Spreading t [] })) (to_others now z q (Spread t (copy_of (merge_copy q copy)))) in
      let more : HouseStep = take_and_answer now z (Held (record (merge_copy q copy) { phase = Gathering t (y ∷ a) })) [] in
      own_taken now z (Gathered t copy) q at (sym e) (ap (is_listed y) l ∙ listed)
      ∙ ap (take_gathered now z t copy q) run
      ∙ ap (λ (c : Bool). cond c (take_gathered_answer now z q t (merge_copy q copy) (y ∷ a)) (stale t (Gathering t a))) (same_stamp t)
      ∙ ap (λ (c : Bool). cond c last more) (ap (λ (l : List Member). all_answered (others_of m l) (y ∷ a)) l ∙ all)

  -- and one of the second round
  pub ack_taken : (m : ℕ) (t : Stamp) (a : List ℕ) (now : House) (y floor : ℕ) (q : Replica) (b : Bool) → is_listed y ms ≡ true
      → now.slots d ≡ Held q → q.epoch ≡ k → q.members ≡ ms → q.phase ≡ Spreading t a → all_answered (others_of m ms) (y ∷ a) ≡ b
      → take now (letter d k m y floor (SpreadAck t))
      ≡ cond b
      (takes now (letter d k m y floor (SpreadAck t)) (Held (record q { all_up_to = later_up_to q.all_up_to t; phase = Idle }))
      (to_others now (letter d k m y floor (SpreadAck t)) q (Advance t)) (Complete t))
      (take_and_answer now (letter d k m y floor (SpreadAck t)) (Held (record q { phase = Spreading t (y ∷ a) })) [])
  ack_taken m t a now y floor q b listed at e l run all =
      let z : Message = letter d k m y floor (SpreadAck t) in
      let last : HouseStep = takes now z (Held (record q { all_up_to = later_up_to q.all_up_to t; phase = Idle })) (to_others now z q (Advance t)) (Complete t) in
      let more : HouseStep = take_and_answer now z (Held (record q { phase = Spreading t (y ∷ a) })) [] in
      own_taken now z (SpreadAck t) q at (sym e) (ap (is_listed y) l ∙ listed)
      ∙ ap (take_ack now z t q) run
      ∙ ap (λ (c : Bool). cond c (spread now z q t (y ∷ a)) (stale t (Spreading t a))) (same_stamp t)
      ∙ ap (λ (c : Bool). cond c last more) (ap (λ (l : List Member). all_answered (others_of m l) (y ∷ a)) l ∙ all)

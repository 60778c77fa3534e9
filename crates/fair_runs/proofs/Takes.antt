-- What a house does with a question or an answer of a skulk that runs.
use Rattle.std.proofs.Common.{◌≡◌, ℕ, ◌⊎◌, inl, inr, Bool, true, false, not, cond, List, [], ◌∷◌, Option, Some, None, refl, sym, ap, ◌∙◌, subst, arith}
use Rattle.std.proofs.Common.{nat_lt}
use Rattle.cds_stamps.specs.declared.stamp.Stamp.{Stamp}
use Rattle.cds_stamps.specs.Members.{others_of, is_listed}
use Rattle.cds_stamps.specs.Stamps.{is_stamp}
use Rattle.cell_model.specs.Cells.{Idle, Gathering, Spreading, Replica, Slot, Gone, Held, House, Copy, Body, Gather, Gathered, Spread}
use Rattle.cell_model.specs.Cells.{SpreadAck, Advance, Message, Cell, IsHeld, put}
use Rattle.cell_model.specs.Commands as commands
use Rattle.cell_model.specs.Turns.{HouseStep, Stays, with_slot, with_marks, floor_after, copy_of, merge_copy, later_up_to, takes, take_and_answer, reply, to_others, all_answered, take_gathered}
use Rattle.cell_model.specs.Turns.{take_gathered_answer, spread, take_ack, take_own, take_other, replica_of_copy, kept_at_join, take_in, take}
use Rattle.cell_model.specs.Steps.{refusal_outcome, is_down, at_house, message_at, deliver, outcome}
use Rattle.cell_model.proofs.Readiness.{own_held}
use Rattle.cell_model.proofs.Rows as rows
use Rattle.cell_model.proofs.Rows.{Row, Own}
use Rattle.fair_runs.proofs.Phases.{phase_in, slot_changed}

-- a stamp is itself
is_itself : (t : Stamp) → is_stamp t t ≡ true
is_itself t = grind arith

-- ---- a message of the epoch, from a member

-- it is taken by its body
own_take : (now : House) (m : Message) (b : Body) (r : Replica) → ((s : Slot) → take_in now m b s ≡ take_other now m b s) → Own now m b r
    → take now m ≡ take_own now m r b
own_take now m b r other k =
    ap (λ (x : Body). take_in now m x (now.slots m.dir)) k.is ∙ ap (take_in now m b) k.held ∙ other (Held r) ∙ own_held now m b r k.epoch k.member

-- a Gather is answered
pub gather_take : (now : House) (m : Message) (t : Stamp) (r : Replica) → Own now m (Gather t) r
    → take now m ≡ take_and_answer now m (Held r) (reply now m (Gathered t (copy_of r)))
gather_take now m t r k = own_take now m (Gather t) r (λ s. refl) k

-- so is a Spread
pub spread_take : (now : House) (m : Message) (t : Stamp) (copy : Copy) (r : Replica) → Own now m (Spread t copy) r
    → take now m ≡ take_and_answer now m (Held (merge_copy r copy)) (reply now m (SpreadAck t))
spread_take now m t copy r k = own_take now m (Spread t copy) r (λ s. refl) k

-- that a skulk is complete is taken in
pub advance_take : (now : House) (m : Message) (t : Stamp) (r : Replica) → Own now m (Advance t) r
    → take now m ≡ take_and_answer now m (Held (record r { all_up_to = later_up_to r.all_up_to t })) []
advance_take now m t r k = own_take now m (Advance t) r (λ s. refl) k

-- an answer of the first round, while that runs
pub gathered_take : (now : House) (m : Message) (t : Stamp) (copy : Copy) (a : List ℕ) (r : Replica) → Own now m (Gathered t copy) r
    → r.phase ≡ Gathering t a → take now m ≡ take_gathered_answer now m r t (merge_copy r copy) (m.sender ∷ a)
gathered_take now m t copy a r k run =
    own_take now m (Gathered t copy) r (λ s. refl) k
    ∙ ap (take_gathered now m t copy r) run
    ∙ ap (λ (c : Bool). cond c (take_gathered_answer now m r t (merge_copy r copy) (m.sender ∷ a)) (Stays (commands.Stale t (Some t)))) (is_itself t)

-- an answer of the second round, while that runs
pub ack_take : (now : House) (m : Message) (t : Stamp) (a : List ℕ) (r : Replica) → Own now m (SpreadAck t) r → r.phase ≡ Spreading t a
    → take now m ≡ spread now m r t (m.sender ∷ a)
ack_take now m t a r k run =
    own_take now m (SpreadAck t) r (λ s. refl) k
    ∙ ap (take_ack now m t r) run
    ∙ ap (λ (c : Bool). cond c (spread now m r t (m.sender ∷ a)) (Stays (commands.Stale t (Some t)))) (is_itself t)

-- a message that is there is taken by its receiver, if that is up
deliver_take : (g : Cell) (n : ℕ) (m : Message) → message_at g n ≡ Some m → (g.house m.receiver).up ≡ true
    → outcome g (commands.Deliver n) ≡ at_house g m.receiver (take (g.house m.receiver) m)
deliver_take g n m at up =
    ap (deliver g) at ∙ ap (λ (b : Bool). cond (not b) (refusal_outcome g commands.Down) (at_house g m.receiver (take (g.house m.receiver) m))) up

-- and as it takes it
pub delivered : (g : Cell) (n : ℕ) (m : Message) (s : HouseStep) → message_at g n ≡ Some m → (g.house m.receiver).up ≡ true → take (g.house m.receiver) m ≡ s
    → outcome g (commands.Deliver n) ≡ at_house g m.receiver s
delivered g n m s at up e = deliver_take g n m at up ∙ ap (at_house g m.receiver) e

-- ---- a round in which one more house answered still waits for another

-- how the phase of a house goes on where a message is delivered: it stays, or ends; or one more
-- house answered in a round, and another has not; or the second round begins
data After (h : ℕ) (r r' : Replica) : Type 0 where
  stays : r'.phase ≡ r.phase → After h r r'
  ends : r'.phase ≡ Idle → After h r r'
  gathers : (u : Stamp) (b : List ℕ) → r'.phase ≡ Gathering u b → all_answered (others_of h r.members) b ≡ false → After h r r'
  turns : (u : Stamp) → r'.phase ≡ Spreading u [] → After h r r'
  acks : (u : Stamp) (b : List ℕ) → r'.phase ≡ Spreading u b → all_answered (others_of h r.members) b ≡ false → After h r r'

module _ (g : Cell) (h d : ℕ) (m : Message) (r r' : Replica) (at : IsHeld g h d r) where
  -- the receiver is the house, and what it has of the directory then is this
  abbrev Here : Slot → Type 0
  Here s = (m.receiver ≡ h) × (m.dir ≡ d) × (s ≡ Held r')

  -- the slot that the house has after a change at the receiver
  abbrev slot_then : Slot → Slot
  slot_then s = (put g.house m.receiver (with_slot (g.house m.receiver) m.dir (floor_after (g.house m.receiver) m) s) h).slots d

  -- a change at the receiver, seen at the house
  changed : (s : Slot) → slot_then s ≡ Held r' → (Here s → After h r r') → After h r r'
  changed s at' here = by_place (slot_changed g.house m.receiver m.dir (floor_after (g.house m.receiver) m) s h d)
    where
      by_place : ((m.receiver ≡ h) × (m.dir ≡ d) × (slot_then s ≡ s)) ⊎ (slot_then s ≡ (g.house h).slots d) → After h r r'
      by_place (inl z) = here (z.0, z.1, sym z.2 ∙ at')
      by_place (inr z) = stays (ap phase_in (sym at' ∙ z ∙ at))

  -- what the receiver held is what the house held, if that is it
  held_then : (q : Replica) → m.receiver ≡ h → m.dir ≡ d → (g.house m.receiver).slots m.dir ≡ Held q → q ≡ r
  held_then q i j e =
      let k : Held q ≡ Held r = sym e ∙ ap (λ (z : ℕ). (g.house z).slots m.dir) i ∙ ap (g.house h).slots j ∙ at in cc

  -- a change that keeps the phase
  kept : (q : Replica) (s : Slot) → (g.house m.receiver).slots m.dir ≡ Held q → phase_in s ≡ q.phase → slot_then s ≡ Held r' → After h r r'
  kept q s e p at' =
      changed s at' (λ z. stays (ap phase_in (sym z.2) ∙ p ∙ ap (λ (v : Replica). v.phase) (held_then q z.0 z.1 e)))

  -- a change that ends the skulk
  ended : (s : Slot) → phase_in s ≡ Idle → slot_then s ≡ Held r' → After h r r'
  ended s p at' = changed s at' (λ z. ends (ap phase_in (sym z.2) ∙ p))

  -- whether all others of the receiver answered, said of the house
  others_then : (q : Replica) (b : List ℕ) → m.receiver ≡ h → m.dir ≡ d → (g.house m.receiver).slots m.dir ≡ Held q
      → all_answered (others_of m.receiver q.members) b ≡ false → all_answered (others_of h r.members) b ≡ false
  others_then q b i j e some =
      subst (λ (v : Replica). all_answered (others_of h v.members) b ≡ false) (held_then q i j e)
      (subst (λ (x : ℕ). all_answered (others_of x q.members) b ≡ false) i some)

  -- an answer of the first round
  gathered_after : (u : Stamp) (copy : Copy) (b : List ℕ) (q : Replica) → Own (g.house m.receiver) m (Gathered u copy) q → q.phase ≡ Gathering u b
      → IsHeld (at_house g m.receiver (take (g.house m.receiver) m)).cell h d r' → After h r r'
  gathered_after u copy b q k run at' =
      by_all (all_answered (others_of m.receiver q.members) (m.sender ∷ b)) refl
      (subst (λ (v : HouseStep). IsHeld (at_house g m.receiver v).cell h d r') (gathered_take (g.house m.receiver) m u copy b q k run) at')
    where
      turn : HouseStep
      turn = take_and_answer (g.house m.receiver) m (Held (record (merge_copy q copy) { phase = Spreading u [] }))
          (to_others (g.house m.receiver) m q (Spread u (copy_of (merge_copy q copy))))

      more : HouseStep
      more = take_and_answer (g.house m.receiver) m (Held (record (merge_copy q copy) { phase = Gathering u (m.sender ∷ b) })) []

      by_all : (c : Bool) → all_answered (others_of m.receiver q.members) (m.sender ∷ b) ≡ c
          → IsHeld (at_house g m.receiver (cond c turn more)).cell h d r' → After h r r'
      by_all true all at2 = changed (Held (record (merge_copy q copy) { phase = Spreading u [] })) at2 (λ z. turns u (ap phase_in (sym z.2)))
      by_all false some at2 =
          changed (Held (record (merge_copy q copy) { phase = Gathering u (m.sender ∷ b) })) at2
          (λ z. gathers u (m.sender ∷ b) (ap phase_in (sym z.2)) (others_then q (m.sender ∷ b) z.0 z.1 k.held some))

  -- an answer of the second round
  acked_after : (u : Stamp) (b : List ℕ) (q : Replica) → Own (g.house m.receiver) m (SpreadAck u) q → q.phase ≡ Spreading u b
      → IsHeld (at_house g m.receiver (take (g.house m.receiver) m)).cell h d r' → After h r r'
  acked_after u b q k run at' =
      by_all (all_answered (others_of m.receiver q.members) (m.sender ∷ b)) refl
      (subst (λ (v : HouseStep). IsHeld (at_house g m.receiver v).cell h d r') (ack_take (g.house m.receiver) m u b q k run) at')
    where
      last : HouseStep
      last = takes (g.house m.receiver) m (Held (record q { all_up_to = later_up_to q.all_up_to u; phase = Idle }))
          (to_others (g.house m.receiver) m q (Advance u)) (commands.Complete u)

      more : HouseStep
      more = take_and_answer (g.house m.receiver) m (Held (record q { phase = Spreading u (m.sender ∷ b) })) []

      by_all : (c : Bool) → all_answered (others_of m.receiver q.members) (m.sender ∷ b) ≡ c
          → IsHeld (at_house g m.receiver (cond c last more)).cell h d r' → After h r r'
      by_all true all at2 = ended (Held (record q { all_up_to = later_up_to q.all_up_to u; phase = Idle })) refl at2
      by_all false some at2 =
          changed (Held (record q { phase = Spreading u (m.sender ∷ b) })) at2
          (λ z. acks u (m.sender ∷ b) (ap phase_in (sym z.2)) (others_then q (m.sender ∷ b) z.0 z.1 k.held some))

  -- any message
  row_after : (s : HouseStep) → Row (g.house m.receiver) m s → s ≡ take (g.house m.receiver) m → IsHeld (at_house g m.receiver s).cell h d r' → After h r r'
  row_after s (rows.passes a p) is at' = stays (ap phase_in (sym at' ∙ at))
  row_after s (rows.unlisted q e ep lacks) is at' = stays (ap phase_in (sym at' ∙ at))
  row_after s (rows.outside ms copy b lacks) is at' = stays (ap phase_in (sym at' ∙ at))
  row_after s (rows.updates marks q k) is at' = kept q (Held (with_marks q marks)) k.held refl at'
  row_after s (rows.gives u q k) is at' = kept q (Held q) k.held refl at'
  row_after s (rows.gathers u copy b q k run) is at' =
      gathered_after u copy b q k run (subst (λ (v : HouseStep). IsHeld (at_house g m.receiver v).cell h d r') is at')
  row_after s (rows.turns u copy b q k run all) is at' =
      gathered_after u copy b q k run (subst (λ (v : HouseStep). IsHeld (at_house g m.receiver v).cell h d r') is at')
  row_after s (rows.gathers_again u copy b q k run) is at' = kept q (Held (merge_copy q copy)) k.held refl at'
  row_after s (rows.spreads u copy q k) is at' = kept q (Held (merge_copy q copy)) k.held refl at'
  row_after s (rows.acks_early u b q k run) is at' = kept q (Held q) k.held refl at'
  row_after s (rows.acks u b q k run) is at' =
      acked_after u b q k run (subst (λ (v : HouseStep). IsHeld (at_house g m.receiver v).cell h d r') is at')
  row_after s (rows.completes u b q k run all) is at' =
      acked_after u b q k run (subst (λ (v : HouseStep). IsHeld (at_house g m.receiver v).cell h d r') is at')
  row_after s (rows.advances u q k) is at' = kept q (Held (record q { all_up_to = later_up_to q.all_up_to u })) k.held refl at'
  row_after s (rows.copies ms copy k low) is at' = ended (Held (replica_of_copy m ms copy)) refl at'
  row_after s (rows.keeps ms copy q k held le since) is at' = ended (Held (kept_at_join m ms copy q)) refl at'
  row_after s (rows.leaves k low) is at' = ended (Gone m.epoch) refl at'

-- any delivery
delivery_after : (g : Cell) (n h d : ℕ) (r r' : Replica) → IsHeld g h d r → IsHeld (outcome g (commands.Deliver n)).cell h d r' → After h r r'
delivery_after g n h d r r' at at' = by_message (message_at g n) refl at'
  where
    by_message : (o : Option Message) → message_at g n ≡ o → IsHeld (deliver g o).cell h d r' → After h r r'
    by_message None e at2 = stays (ap phase_in (sym at2 ∙ at))
    by_message (Some m) e at2 = by_down (is_down g m.receiver) at2
      where
        by_down : (b : Bool)
            → IsHeld (cond b (refusal_outcome g commands.Down) (at_house g m.receiver (take (g.house m.receiver) m))).cell h d r' → After h r r'
        by_down true at3 = stays (ap phase_in (sym at3 ∙ at))
        by_down false at3 = row_after g h d m r r' at _ (rows.take_row (g.house m.receiver) m) refl at3

-- while the first round of t runs, another house has yet to answer, after each delivery
pub still_gathering : (g : Cell) (n h d : ℕ) (t : Stamp) (r r' : Replica) (a a' : List ℕ) → IsHeld g h d r
    → IsHeld (outcome g (commands.Deliver n)).cell h d r' → r.phase ≡ Gathering t a → r'.phase ≡ Gathering t a'
    → all_answered (others_of h r.members) a ≡ false → all_answered (others_of h r.members) a' ≡ false
still_gathering g n h d t r r' a a' at at' run run' some = by_after (delivery_after g n h d r r' at at')
  where
    by_after : After h r r' → all_answered (others_of h r.members) a' ≡ false
    by_after (stays e) =
        let p : Gathering t a ≡ Gathering t a' = sym run ∙ sym e ∙ run' in
        let l : a ≡ a' = cc in subst (λ (x : List ℕ). all_answered (others_of h r.members) x ≡ false) l some
    by_after (ends e) = let p : Idle ≡ Gathering t a' = sym e ∙ run' in absurd (cc)
    by_after (gathers u b e more) =
        let p : Gathering u b ≡ Gathering t a' = sym e ∙ run' in
        let l : b ≡ a' = cc in subst (λ (x : List ℕ). all_answered (others_of h r.members) x ≡ false) l more
    by_after (turns u e) = let p : Spreading u [] ≡ Gathering t a' = sym e ∙ run' in absurd (cc)
    by_after (acks u b e more) = let p : Spreading u b ≡ Gathering t a' = sym e ∙ run' in absurd (cc)

-- and so in the second round, if there is another house
pub still_spreading : (g : Cell) (n h d : ℕ) (t : Stamp) (r r' : Replica) (a a' : List ℕ) → IsHeld g h d r
    → IsHeld (outcome g (commands.Deliver n)).cell h d r' → r.phase ≡ Spreading t a → r'.phase ≡ Spreading t a'
    → all_answered (others_of h r.members) [] ≡ false → all_answered (others_of h r.members) a ≡ false → all_answered (others_of h r.members) a' ≡ false
still_spreading g n h d t r r' a a' at at' run run' none some = by_after (delivery_after g n h d r r' at at')
  where
    by_after : After h r r' → all_answered (others_of h r.members) a' ≡ false
    by_after (stays e) =
        let p : Spreading t a ≡ Spreading t a' = sym run ∙ sym e ∙ run' in
        let l : a ≡ a' = cc in subst (λ (x : List ℕ). all_answered (others_of h r.members) x ≡ false) l some
    by_after (ends e) = let p : Idle ≡ Spreading t a' = sym e ∙ run' in absurd (cc)
    by_after (gathers u b e more) = let p : Gathering u b ≡ Spreading t a' = sym e ∙ run' in absurd (cc)
    by_after (turns u e) =
        let p : Spreading u [] ≡ Spreading t a' = sym e ∙ run' in
        let l : [] ≡ a' = cc in subst (λ (x : List ℕ). all_answered (others_of h r.members) x ≡ false) l none
    by_after (acks u b e more) =
        let p : Spreading u b ≡ Spreading t a' = sym e ∙ run' in
        let l : b ≡ a' = cc in subst (λ (x : List ℕ). all_answered (others_of h r.members) x ≡ false) l more

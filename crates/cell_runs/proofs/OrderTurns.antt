-- A turn of a house says so in its answer, and a house that is up stays up.
use Rattle.std.proofs.Common.{◌≡◌, ℕ, List, [], ◌∷◌, Bool, true, false, refl, sym, ap, ◌∙◌, subst}
use Rattle.std.specs.Prelude.{Option, Some, None, nat_le, nat_lt, if◌then◌else◌, ◌==◌, ◌&&◌}
use Rattle.cds_stamps.specs.declared.stamp.Stamp.{Stamp}
use Rattle.cds_stamps.specs.Members.{Member, is_listed, master_of, others_of, since_in}
use Rattle.cds_stamps.specs.Stamps.{is_stamp}
use Rattle.directory.specs.declared.update.UpdateRefusal.{UpdateRefusal}
use Rattle.directory.specs.Updates.{Change, MakeChild}
use Rattle.cell_model.specs.Cells as model
use Rattle.cell_model.specs.Cells.{Body, Copy, House, Message, Phase, Replica, Slot}
use Rattle.cell_model.specs.Commands.{Answer, Stamped}
use Rattle.cell_model.specs.Steps.{member_list_of, sorted_houses}
use Rattle.cell_model.specs.Turns as turns
use Rattle.cell_model.specs.Turns.{HouseStep, Stays, Turns, Turn}
use Rattle.cell_runs.specs.Entries.{Order, Root, Mkdir, Accept, Skulk, Epoch, Take}
use Rattle.cell_runs.specs.OrderSteps.{order_step, then_found, with_number}
use Rattle.cell_runs.specs.Views.{is_turn}

-- a turn is one by its answer, and leaves the house as it was, up or down
abbrev pub IsFine : House → HouseStep → Type 0
IsFine now (Stays answer) = Unit {0}
IsFine now (Turns t) = ((ns : List ℕ) → is_turn (t.answer ns) ≡ true) × (t.house.up ≡ now.up)

-- so it is of a step
pub record Fine (now : House) (s : HouseStep) : Type 0 where
  pub fine : IsFine now s

fine_if : (now : House) (b : Bool) (s t : HouseStep) → Fine now s → Fine now t → Fine now (if b then s else t)
fine_if now true s t one two = one
fine_if now false s t one two = two

-- ---- updates, skulks and new epochs

accept_with : (h : ℕ) (now : House) (d : ℕ) (u : Change) (r : Replica) (o : Option UpdateRefusal) (t : Option Stamp)
    → Fine now (turns.unless_refused o (turns.accept_at h now d u r t))
accept_with h now d u r (Some q) t = record { fine = tt }
accept_with h now d u r None None = record { fine = tt }
accept_with h now d u r None (Some s) = record { fine = (λ ns. refl, refl) }

accept_in : (h : ℕ) (now : House) (d : ℕ) (u : Change) (s : Slot) → Fine now (turns.accept_in h now d u s)
accept_in h now d u model.Absent = record { fine = tt }
accept_in h now d u (model.Gone e) = record { fine = tt }
accept_in h now d u (model.Held r) = accept_with h now d u r (turns.update_refusal h u r) (turns.stamp_at now)

-- of an update
pub accept_fine : (h : ℕ) (now : House) (d : ℕ) (u : Change) → Fine now (turns.accept h now d u)
accept_fine h now d u = accept_in h now d u (now.slots d)

begin_with : (h : ℕ) (now : House) (d : ℕ) (r : Replica) (t : Stamp) (others : List ℕ) → Fine now (turns.begin h now d r t others)
begin_with h now d r t [] = record { fine = (λ ns. refl, refl) }
begin_with h now d r t (y ∷ ys) = record { fine = (λ ns. refl, refl) }

skulk_at : (h : ℕ) (now : House) (d : ℕ) (r : Replica) (t : Option Stamp) → Fine now (turns.skulk_at h now d r t)
skulk_at h now d r None = record { fine = tt }
skulk_at h now d r (Some t) = begin_with h now d r t (others_of h r.members)

skulk_in : (h : ℕ) (now : House) (d : ℕ) (s : Slot) → Fine now (turns.skulk_in h now d s)
skulk_in h now d model.Absent = record { fine = tt }
skulk_in h now d (model.Gone e) = record { fine = tt }
skulk_in h now d (model.Held r) =
    fine_if now (master_of r.members == h) _ _ (skulk_at h now d r (turns.stamp_at now)) (record { fine = tt })

-- of a skulk
pub skulk_fine : (h : ℕ) (now : House) (d : ℕ) → Fine now (turns.skulk h now d)
skulk_fine h now d = skulk_in h now d (now.slots d)

epoch_in : (m : ℕ) (now : House) (d k : ℕ) (ms : List Member) (left : List ℕ) (s : Slot) → Fine now (turns.new_epoch_in m now d k ms left s)
epoch_in m now d k ms left model.Absent = record { fine = tt }
epoch_in m now d k ms left (model.Gone e) = record { fine = tt }
epoch_in m now d k ms left (model.Held r) =
    fine_if now (nat_le (since_in ms m 0) r.epoch) _ _ (record { fine = (λ ns. refl, refl) }) (record { fine = tt })

-- of a new epoch
pub new_epoch_fine : (m : ℕ) (now : House) (d k : ℕ) (ms : List Member) (left : List ℕ) → Fine now (turns.new_epoch m now d k ms left)
new_epoch_fine m now d k ms left = epoch_in m now d k ms left (now.slots d)

-- ---- messages

module _ (now : House) (m : Message) where
  unless_late : (o : Option ℕ) (s : HouseStep) → Fine now s → Fine now (turns.unless_late m o s)
  unless_late None s one = one
  unless_late (Some e) s one = record { fine = tt }

  gathered : (t : Stamp) (copy : Copy) (r : Replica) (p : Phase) → Fine now (turns.take_gathered now m t copy r p)
  gathered t copy r model.Idle = record { fine = tt }
  gathered t copy r (model.Gathering u answered) =
      fine_if now (is_stamp t u) _ _
      (fine_if now (turns.all_answered (others_of m.receiver r.members) (m.sender ∷ answered)) _ _ (record { fine = (λ ns. refl, refl) }) (record { fine = (λ ns. refl, refl) }))
      (record { fine = tt })
  gathered t copy r (model.Spreading u answered) = fine_if now (is_stamp t u) _ _ (record { fine = (λ ns. refl, refl) }) (record { fine = tt })

  acked : (t : Stamp) (r : Replica) (p : Phase) → Fine now (turns.take_ack now m t r p)
  acked t r model.Idle = record { fine = tt }
  acked t r (model.Gathering u answered) = fine_if now (is_stamp t u) _ _ (record { fine = (λ ns. refl, refl) }) (record { fine = tt })
  acked t r (model.Spreading u answered) =
      fine_if now (is_stamp t u) _ _
      (fine_if now (turns.all_answered (others_of m.receiver r.members) (m.sender ∷ answered)) _ _ (record { fine = (λ ns. refl, refl) }) (record { fine = (λ ns. refl, refl) }))
      (record { fine = tt })

  own : (r : Replica) (b : Body) → Fine now (turns.take_own now m r b)
  own r (model.Update marks) = record { fine = (λ ns. refl, refl) }
  own r (model.Gather t) = record { fine = (λ ns. refl, refl) }
  own r (model.Gathered t copy) = gathered t copy r r.phase
  own r (model.Spread t copy) = record { fine = (λ ns. refl, refl) }
  own r (model.SpreadAck t) = acked t r r.phase
  own r (model.Advance t) = record { fine = (λ ns. refl, refl) }
  own r (model.Join members copy) = record { fine = tt }
  own r model.Leave = record { fine = tt }

  other : (b : Body) (s : Slot) → Fine now (turns.take_other now m b s)
  other b model.Absent = record { fine = tt }
  other b (model.Gone e) = record { fine = tt }
  other b (model.Held r) =
      fine_if now (nat_lt m.epoch r.epoch) _ _ (record { fine = tt })
      (fine_if now (nat_lt r.epoch m.epoch) _ _ (record { fine = tt })
      (fine_if now (is_listed m.sender r.members) _ _ (own r b) (record { fine = tt })))

  taken : (b : Body) (s : Slot) → Fine now (turns.take_in now m b s)
  taken (model.Join members copy) s =
      unless_late (turns.late_join m.epoch s) _
      (fine_if now (is_listed m.receiver members && is_listed m.sender members) _ _ (record { fine = (λ ns. refl, refl) }) (record { fine = tt }))
  taken model.Leave s = unless_late (turns.late_leave m.epoch s) _ (record { fine = (λ ns. refl, refl) })
  taken (model.Update marks) s = other (model.Update marks) s
  taken (model.Gather t) s = other (model.Gather t) s
  taken (model.Gathered t copy) s = other (model.Gathered t copy) s
  taken (model.Spread t copy) s = other (model.Spread t copy) s
  taken (model.SpreadAck t) s = other (model.SpreadAck t) s
  taken (model.Advance t) s = other (model.Advance t) s

  -- of a message
  pub take_fine : Fine now (turns.take now m)
  take_fine = taken m.body (now.slots m.dir)

-- ---- orders

-- a child and its directory are one turn, if the child is, which answers by a stamp
numbered_turn : (d : ℕ) (a : Answer) → is_turn a ≡ true → is_turn (with_number d a) ≡ true
numbered_turn d (Stamped s ns) is = refl
numbered_turn d _ is = is

founded_fine : (x d : ℕ) (now : House) (ms : List Member) (s : HouseStep) → Fine now s → Fine now (then_found x d ms s)
founded_fine x d now ms (Stays answer) f = record { fine = tt }
founded_fine x d now ms (Turns t) f = record { fine = (λ ns. numbered_turn d (t.answer ns) (f.fine.0 ns), f.fine.1) }

-- the step of each order
order_fine : (x : ℕ) (now : House) (order : Order) (m : Message) → Fine now (order_step x now order m)
order_fine x now (Root rs ss) m = record { fine = (λ ns. refl, refl) }
order_fine x now (Mkdir d n made rs ss) m =
    founded_fine x made now (member_list_of [] 1 x rs ss) _
    (accept_fine x now d (MakeChild n (record { dir = made; master = x; others = sorted_houses rs })))
order_fine x now (Accept d u) m = accept_fine x now d u
order_fine x now (Skulk d) m = skulk_fine x now d
order_fine x now (Epoch d k ms left) m = new_epoch_fine x now d k ms left
order_fine x now (Take octets) m = take_fine now m

-- a turn
pub turn_fine : (x : ℕ) (now : House) (order : Order) (m : Message) (t : Turn) → order_step x now order m ≡ Turns t → IsFine now (Turns t)
turn_fine x now order m t is = subst (IsFine now) is (order_fine x now order m).fine

-- ---- a house that acts holds the directory

pub accept_held : (x : ℕ) (now : House) (d : ℕ) (u : Change) (t : Turn) → turns.accept x now d u ≡ Turns t → now.slots d ≡ model.Absent → ⊥
accept_held x now d u t is none = let z : turns.accept_in x now d u model.Absent ≡ Turns t = ap (turns.accept_in x now d u) (sym none) ∙ is in absurd (cc (z))

pub skulk_held : (x : ℕ) (now : House) (d : ℕ) (t : Turn) → turns.skulk x now d ≡ Turns t → now.slots d ≡ model.Absent → ⊥
skulk_held x now d t is none = let z : turns.skulk_in x now d model.Absent ≡ Turns t = ap (turns.skulk_in x now d) (sym none) ∙ is in absurd (cc (z))

pub epoch_held : (x : ℕ) (now : House) (d k : ℕ) (ms : List Member) (left : List ℕ) (t : Turn) → turns.new_epoch x now d k ms left ≡ Turns t
    → now.slots d ≡ model.Absent → ⊥
epoch_held x now d k ms left t is none =
    let z : turns.new_epoch_in x now d k ms left model.Absent ≡ Turns t = ap (turns.new_epoch_in x now d k ms left) (sym none) ∙ is in absurd (cc (z))

-- The answer of a house's step tells the serial numbers of what it posts.
use Rattle.std.proofs.Common.{ℕ, List, [], ◌∷◌, Bool, true, false, refl}
use Rattle.std.specs.Prelude.{Option, Some, None, nat_le, nat_lt, if◌then◌else◌, ◌==◌, ◌&&◌}
use Rattle.cds_stamps.specs.declared.stamp.Stamp.{Stamp}
use Rattle.cds_stamps.specs.Members.{Member, is_listed, master_of, others_of, since_in}
use Rattle.cds_stamps.specs.Stamps.{is_stamp}
use Rattle.directory.specs.declared.update.UpdateRefusal.{UpdateRefusal}
use Rattle.directory.specs.Updates.{Change}
use Rattle.cell_model.specs.Cells as model
use Rattle.cell_model.specs.Cells.{Body, Copy, House, Message, Phase, Replica, Slot}
use Rattle.cell_model.specs.Turns as turns
use Rattle.cell_model.specs.Turns.{HouseStep, Stays, Turns}
use Rattle.cell_model.proofs.AtHouses.{answer_of}
use Rattle.cds_cell.specs.PrivateActs.{Tells}

-- so whichever numbers these are
pub record TellsOwn (s : HouseStep) : Type 0 where
  pub told : (ns : List ℕ) → Tells (answer_of s ns) ns

tells_if : (b : Bool) (s t : HouseStep) → TellsOwn s → TellsOwn t → TellsOwn (if b then s else t)
tells_if true s t one two = one
tells_if false s t one two = two

-- ---- updates, skulks and new epochs

accept_with : (h : ℕ) (now : House) (d : ℕ) (u : Change) (r : Replica) (o : Option UpdateRefusal) (t : Option Stamp)
    → TellsOwn (turns.unless_refused o (turns.accept_at h now d u r t))
accept_with h now d u r (Some q) t = record { told = λ ns. tt }
accept_with h now d u r None None = record { told = λ ns. tt }
accept_with h now d u r None (Some s) = record { told = λ ns. refl }

accept_in : (h : ℕ) (now : House) (d : ℕ) (u : Change) (s : Slot) → TellsOwn (turns.accept_in h now d u s)
accept_in h now d u model.Absent = record { told = λ ns. tt }
accept_in h now d u (model.Gone e) = record { told = λ ns. tt }
accept_in h now d u (model.Held r) = accept_with h now d u r (turns.update_refusal h u r) (turns.stamp_at now)

-- of an update
pub accept_tells : (h : ℕ) (now : House) (d : ℕ) (u : Change) → TellsOwn (turns.accept h now d u)
accept_tells h now d u = accept_in h now d u (now.slots d)

begin_with : (h : ℕ) (now : House) (d : ℕ) (r : Replica) (t : Stamp) (others : List ℕ) → TellsOwn (turns.begin h now d r t others)
begin_with h now d r t [] = record { told = λ ns. refl }
begin_with h now d r t (y ∷ ys) = record { told = λ ns. refl }

skulk_at : (h : ℕ) (now : House) (d : ℕ) (r : Replica) (t : Option Stamp) → TellsOwn (turns.skulk_at h now d r t)
skulk_at h now d r None = record { told = λ ns. tt }
skulk_at h now d r (Some t) = begin_with h now d r t (others_of h r.members)

skulk_in : (h : ℕ) (now : House) (d : ℕ) (s : Slot) → TellsOwn (turns.skulk_in h now d s)
skulk_in h now d model.Absent = record { told = λ ns. tt }
skulk_in h now d (model.Gone e) = record { told = λ ns. tt }
skulk_in h now d (model.Held r) =
    tells_if (master_of r.members == h) _ _ (skulk_at h now d r (turns.stamp_at now)) (record { told = λ ns. tt })

-- of a skulk
pub skulk_tells : (h : ℕ) (now : House) (d : ℕ) → TellsOwn (turns.skulk h now d)
skulk_tells h now d = skulk_in h now d (now.slots d)

epoch_in : (m : ℕ) (now : House) (d k : ℕ) (ms : List Member) (left : List ℕ) (s : Slot) → TellsOwn (turns.new_epoch_in m now d k ms left s)
epoch_in m now d k ms left model.Absent = record { told = λ ns. tt }
epoch_in m now d k ms left (model.Gone e) = record { told = λ ns. tt }
epoch_in m now d k ms left (model.Held r) =
    tells_if (nat_le (since_in ms m 0) r.epoch) _ _ (record { told = λ ns. refl }) (record { told = λ ns. tt })

-- of a new epoch
pub new_epoch_tells : (m : ℕ) (now : House) (d k : ℕ) (ms : List Member) (left : List ℕ) → TellsOwn (turns.new_epoch m now d k ms left)
new_epoch_tells m now d k ms left = epoch_in m now d k ms left (now.slots d)

-- ---- messages

module _ (now : House) (m : Message) where
  unless_late : (o : Option ℕ) (s : HouseStep) → TellsOwn s → TellsOwn (turns.unless_late m o s)
  unless_late None s one = one
  unless_late (Some e) s one = record { told = λ ns. tt }

  gathered : (t : Stamp) (copy : Copy) (r : Replica) (p : Phase) → TellsOwn (turns.take_gathered now m t copy r p)
  gathered t copy r model.Idle = record { told = λ ns. tt }
  gathered t copy r (model.Gathering u answered) =
      tells_if (is_stamp t u) _ _
      (tells_if (turns.all_answered (others_of m.receiver r.members) (m.sender ∷ answered)) _ _ (record { told = λ ns. refl }) (record { told = λ ns. refl }))
      (record { told = λ ns. tt })
  gathered t copy r (model.Spreading u answered) = tells_if (is_stamp t u) _ _ (record { told = λ ns. refl }) (record { told = λ ns. tt })

  acked : (t : Stamp) (r : Replica) (p : Phase) → TellsOwn (turns.take_ack now m t r p)
  acked t r model.Idle = record { told = λ ns. tt }
  acked t r (model.Gathering u answered) = tells_if (is_stamp t u) _ _ (record { told = λ ns. refl }) (record { told = λ ns. tt })
  acked t r (model.Spreading u answered) =
      tells_if (is_stamp t u) _ _
      (tells_if (turns.all_answered (others_of m.receiver r.members) (m.sender ∷ answered)) _ _ (record { told = λ ns. refl }) (record { told = λ ns. refl }))
      (record { told = λ ns. tt })

  own : (r : Replica) (b : Body) → TellsOwn (turns.take_own now m r b)
  own r (model.Update marks) = record { told = λ ns. refl }
  own r (model.Gather t) = record { told = λ ns. refl }
  own r (model.Gathered t copy) = gathered t copy r r.phase
  own r (model.Spread t copy) = record { told = λ ns. refl }
  own r (model.SpreadAck t) = acked t r r.phase
  own r (model.Advance t) = record { told = λ ns. refl }
  own r (model.Join members copy) = record { told = λ ns. tt }
  own r model.Leave = record { told = λ ns. tt }

  other : (b : Body) (s : Slot) → TellsOwn (turns.take_other now m b s)
  other b model.Absent = record { told = λ ns. tt }
  other b (model.Gone e) = record { told = λ ns. tt }
  other b (model.Held r) =
      tells_if (nat_lt m.epoch r.epoch) _ _ (record { told = λ ns. tt })
      (tells_if (nat_lt r.epoch m.epoch) _ _ (record { told = λ ns. tt })
      (tells_if (is_listed m.sender r.members) _ _ (own r b) (record { told = λ ns. tt })))

  taken : (b : Body) (s : Slot) → TellsOwn (turns.take_in now m b s)
  taken (model.Join members copy) s =
      unless_late (turns.late_join m.epoch s) _
      (tells_if (is_listed m.receiver members && is_listed m.sender members) _ _ (record { told = λ ns. refl }) (record { told = λ ns. tt }))
  taken model.Leave s = unless_late (turns.late_leave m.epoch s) _ (record { told = λ ns. refl })
  taken (model.Update marks) s = other (model.Update marks) s
  taken (model.Gather t) s = other (model.Gather t) s
  taken (model.Gathered t copy) s = other (model.Gathered t copy) s
  taken (model.Spread t copy) s = other (model.Spread t copy) s
  taken (model.SpreadAck t) s = other (model.SpreadAck t) s
  taken (model.Advance t) s = other (model.Advance t) s

  -- of a message
  pub take_tells : TellsOwn (turns.take now m)
  take_tells = taken m.body (now.slots m.dir)

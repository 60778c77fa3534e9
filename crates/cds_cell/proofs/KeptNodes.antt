-- A step of the model's house keeps its node, its clock, and whether it is up.
use Rattle.std.proofs.Common.{◌≡◌, ℕ, Bool, true, false, List, [], ◌∷◌, Option, Some, None, refl}
use Rattle.std.specs.Prelude.{nat_le, nat_lt, ◌==◌, ◌&&◌, if◌then◌else◌}
use Rattle.cds_stamps.specs.declared.stamp.Stamp.{Stamp}
use Rattle.cds_stamps.specs.Members.{Member, is_listed, master_of, others_of, since_in}
use Rattle.cds_stamps.specs.Stamps.{is_stamp}
use Rattle.directory.specs.declared.update.UpdateRefusal.{UpdateRefusal}
use Rattle.directory.specs.declared.update.UpdateRefusal.TheVariants as why
use Rattle.directory.specs.Updates.{Change}
use Rattle.cell_model.specs.Cells as model
use Rattle.cell_model.specs.Turns as turns
use Rattle.cell_model.specs.Turns.{HouseStep, Stays, Turns, with_slot}

-- it is the same in them
pub record SameNode (now after : model.House) : Type 0 where
  pub node : after.node ≡ now.node
  pub clock : after.clock ≡ now.clock
  pub up : after.up ≡ now.up

-- a step leaves the house the same in them
abbrev pub KeepsNode : model.House → HouseStep → Type 0
KeepsNode now (Stays answer) = Unit {0}
KeepsNode now (Turns turn) = SameNode now turn.house

module _ (now : model.House) where
  -- a house that holds something else is
  pub holding_same : (d floor : ℕ) (s : model.Slot) → SameNode now (with_slot now d floor s)
  holding_same d floor s = record { node = refl; clock = refl; up = refl }

  either_keeps : (b : Bool) (s t : HouseStep) → KeepsNode now s → KeepsNode now t → KeepsNode now (if b then s else t)
  either_keeps true s t h k = h
  either_keeps false s t h k = k

  -- an update does
  pub accept_keeps : (h d : ℕ) (u : Change) → KeepsNode now (turns.accept h now d u)
  accept_keeps h d u = in_slot (now.slots d)
    where
      at_stamp : (r : model.Replica) (o : Option Stamp) → KeepsNode now (turns.accept_at h now d u r o)
      at_stamp r None = tt
      at_stamp r (Some s) = record { node = refl; clock = refl; up = refl }

      unless : (o : Option UpdateRefusal) (s : HouseStep) → KeepsNode now s → KeepsNode now (turns.unless_refused o s)
      unless None s k = k
      unless (Some r) s k = tt

      in_slot : (s : model.Slot) → KeepsNode now (turns.accept_in h now d u s)
      in_slot model.Absent = tt
      in_slot (model.Gone e) = tt
      in_slot (model.Held r) = unless (turns.update_refusal h u r) (turns.accept_at h now d u r (turns.stamp_at now)) (at_stamp r (turns.stamp_at now))

  -- a skulk does
  pub skulk_keeps : (h d : ℕ) → KeepsNode now (turns.skulk h now d)
  skulk_keeps h d = in_slot (now.slots d)
    where
      begins : (r : model.Replica) (t : Stamp) (others : List ℕ) → KeepsNode now (turns.begin h now d r t others)
      begins r t [] = record { node = refl; clock = refl; up = refl }
      begins r t (y ∷ ys) = record { node = refl; clock = refl; up = refl }

      at_stamp : (r : model.Replica) (o : Option Stamp) → KeepsNode now (turns.skulk_at h now d r o)
      at_stamp r None = tt
      at_stamp r (Some t) = begins r t (others_of h r.members)

      in_slot : (s : model.Slot) → KeepsNode now (turns.skulk_in h now d s)
      in_slot model.Absent = tt
      in_slot (model.Gone e) = tt
      in_slot (model.Held r) = by (master_of r.members == h)
        where
          by : (b : Bool) → KeepsNode now (if b then turns.skulk_at h now d r (turns.stamp_at now) else turns.refuses why.NotMaster)
          by true = at_stamp r (turns.stamp_at now)
          by false = tt

  -- a new epoch does
  pub epoch_keeps : (m d k : ℕ) (ms : List Member) (left : List ℕ) → KeepsNode now (turns.new_epoch m now d k ms left)
  epoch_keeps m d k ms left = in_slot (now.slots d)
    where
      in_slot : (s : model.Slot) → KeepsNode now (turns.new_epoch_in m now d k ms left s)
      in_slot model.Absent = tt
      in_slot (model.Gone e) = tt
      in_slot (model.Held r) =
          either_keeps (nat_le (since_in ms m 0) r.epoch) _ _ (record { node = refl; clock = refl; up = refl }) tt

  -- a message does
  pub take_keeps : (m : model.Message) → KeepsNode now (turns.take now m)
  take_keeps m = in_body m.body (now.slots m.dir)
    where
      gathered : (r : model.Replica) (t : Stamp) (q : model.Replica) (answered : List ℕ) → KeepsNode now (turns.take_gathered_answer now m r t q answered)
      gathered r t q answered =
          either_keeps (turns.all_answered (others_of m.receiver r.members) answered) _ _ (record { node = refl; clock = refl; up = refl })
          (record { node = refl; clock = refl; up = refl })

      spread : (r : model.Replica) (t : Stamp) (answered : List ℕ) → KeepsNode now (turns.spread now m r t answered)
      spread r t answered =
          either_keeps (turns.all_answered (others_of m.receiver r.members) answered) _ _ (record { node = refl; clock = refl; up = refl })
          (record { node = refl; clock = refl; up = refl })

      first : (t : Stamp) (copy : model.Copy) (r : model.Replica) (p : model.Phase) → KeepsNode now (turns.take_gathered now m t copy r p)
      first t copy r model.Idle = tt
      first t copy r (model.Gathering u answered) = either_keeps (is_stamp t u) _ _ (gathered r u (turns.merge_copy r copy) (m.sender ∷ answered)) tt
      first t copy r (model.Spreading u answered) = either_keeps (is_stamp t u) _ _ (record { node = refl; clock = refl; up = refl }) tt

      second : (t : Stamp) (r : model.Replica) (p : model.Phase) → KeepsNode now (turns.take_ack now m t r p)
      second t r model.Idle = tt
      second t r (model.Gathering u answered) = either_keeps (is_stamp t u) _ _ (record { node = refl; clock = refl; up = refl }) tt
      second t r (model.Spreading u answered) = either_keeps (is_stamp t u) _ _ (spread r u (m.sender ∷ answered)) tt

      own : (r : model.Replica) (b : model.Body) → KeepsNode now (turns.take_own now m r b)
      own r (model.Update marks) = record { node = refl; clock = refl; up = refl }
      own r (model.Gather t) = record { node = refl; clock = refl; up = refl }
      own r (model.Gathered t copy) = first t copy r r.phase
      own r (model.Spread t copy) = record { node = refl; clock = refl; up = refl }
      own r (model.SpreadAck t) = second t r r.phase
      own r (model.Advance t) = record { node = refl; clock = refl; up = refl }
      own r (model.Join members copy) = tt
      own r model.Leave = tt

      other : (b : model.Body) (s : model.Slot) → KeepsNode now (turns.take_other now m b s)
      other b model.Absent = tt
      other b (model.Gone e) = tt
      other b (model.Held r) =
          either_keeps (nat_lt m.epoch r.epoch) _ _ tt
          (either_keeps (nat_lt r.epoch m.epoch) _ _ tt (either_keeps (is_listed m.sender r.members) _ _ (own r b) tt))

      unless : (o : Option ℕ) (s : HouseStep) → KeepsNode now s → KeepsNode now (turns.unless_late m o s)
      unless None s k = k
      unless (Some e) s k = tt

      in_body : (b : model.Body) (s : model.Slot) → KeepsNode now (turns.take_in now m b s)
      in_body (model.Join members copy) s =
          unless (turns.late_join m.epoch s) _
          (either_keeps (is_listed m.receiver members && is_listed m.sender members) _ _ (record { node = refl; clock = refl; up = refl }) tt)
      in_body model.Leave s = unless (turns.late_leave m.epoch s) _ (record { node = refl; clock = refl; up = refl })
      in_body (model.Update marks) s = other (model.Update marks) s
      in_body (model.Gather t) s = other (model.Gather t) s
      in_body (model.Gathered t copy) s = other (model.Gathered t copy) s
      in_body (model.Spread t copy) s = other (model.Spread t copy) s
      in_body (model.SpreadAck t) s = other (model.SpreadAck t) s
      in_body (model.Advance t) s = other (model.Advance t) s

-- Floors, and the stamps that are issued above them (own, after C705, timestamps).
use Rattle.std.specs.Prelude.{◌≡◌, ℕ, ◌<◌, ◌≤◌, ◌⊎◌, List, ◌∷◌, ◌++◌, Option, Some, None}
use Rattle.cds_stamps.specs.declared.stamp.Stamp.{Stamp}
use Rattle.directory.specs.Histories.{Mark, stamp_in, born_in}
use Rattle.cell_model.specs.Cells.{Replica, Message, Cell, IsHeld}
use Rattle.cell_model.specs.Bodies.{marks_in, round_of, up_to_in}
use Rattle.cell_model.specs.Commands.{Command, Skulk, Answer, Made, Stamped, Complete}
use Rattle.cell_model.specs.Sets.{In}
use Rattle.cell_model.specs.Turns.{running_skulk_stamp}
use Rattle.cell_model.specs.Steps.{outcome, replay}
use Rattle.cell_model.specs.Agreement.{place_of}

-- the times of a mark and of its entry's birth are at most this (own)
abbrev pub IsBelow : Mark → ℕ → Type 0
IsBelow k floor = ((stamp_in k).time ≤ floor) × ((born_in k).time ≤ floor)

-- no time of a house's replica is above the house's floor (own)
pub record ReplicaBelow (r : Replica) (floor : ℕ) : Type 0 where
  pub marks : (k : Mark) → In k r.history → IsBelow k floor
  pub all_up_to : (t : Stamp) → r.all_up_to ≡ Some t → t.time ≤ floor
  pub phase : (t : Stamp) → running_skulk_stamp r.phase ≡ Some t → t.time ≤ floor

-- no time of a message's body is above its floor (own)
pub record TimesBelow (m : Message) : Type 0 where
  pub marks : (k : Mark) → In k (marks_in m.body) → IsBelow k m.floor
  pub all_up_to : (t : Stamp) → up_to_in m.body ≡ Some t → t.time ≤ m.floor
  pub round : (t : Stamp) → round_of m.body ≡ Some t → t.time ≤ m.floor

-- and this is at most its sender's (own)
pub record MessageBelow (g : Cell) (m : Message) : Type 0 where
  pub times : TimesBelow m
  pub sender : m.floor ≤ (g.house m.sender).floor

-- so it is at each house and of each message (own)
pub record FloorsHold (g : Cell) : Type 0 where
  pub houses : (x d : ℕ) (r : Replica) → IsHeld g x d r → ReplicaBelow r (g.house x).floor
  pub messages : (m : Message) → In m g.bag → MessageBelow g m

-- a step does not lower a floor, and a message that it posts has its sender's floor after the step
-- (own)
pub record FloorsRise (g g' : Cell) : Type 0 where
  pub rises : (x : ℕ) → (g.house x).floor ≤ (g'.house x).floor
  pub posts : (m : Message) → In m g'.bag → In m g.bag ⊎ (m.floor ≡ (g'.house m.sender).floor)

-- the stamp that a command issued: that of its update, or of its skulk (own)
abbrev pub stamp_issued : Command → Answer → Option Stamp
stamp_issued c (Stamped s ns) = Some s
stamp_issued c (Made d s ns) = Some s
stamp_issued (Skulk h d) (Complete t ns) = Some t
stamp_issued c a = None

-- after these commands, this one issued the stamp (own)
abbrev pub Issues : List Command → Command → Stamp → Type 0
Issues commands c s = stamp_issued c (outcome (replay commands) c).answer ≡ Some s

-- the stamp is later than the house's floor, and than each time of its replicas (own)
pub record IsAboveHouse (g : Cell) (h : ℕ) (s : Stamp) : Type 0 where
  pub floor : (g.house h).floor < s.time
  pub marks : (d : ℕ) (r : Replica) (k : Mark) → IsHeld g h d r → In k r.history → ((stamp_in k).time < s.time) × ((born_in k).time < s.time)
  pub all_up_to : (d : ℕ) (r : Replica) (t : Stamp) → IsHeld g h d r → r.all_up_to ≡ Some t → t.time < s.time
  pub phase : (d : ℕ) (r : Replica) (t : Stamp) → IsHeld g h d r → running_skulk_stamp r.phase ≡ Some t → t.time < s.time

-- a stamp that is issued is above all times of its house, whose floor becomes its time, and of the
-- house's node (own)
abbrev pub IssuesAbove : List Command → Command → Type 0
IssuesAbove commands c =
    (s : Stamp) → Issues commands c s →
    (h d : ℕ) × (place_of (replay commands) c ≡ Some (h, d)) × IsAboveHouse (replay commands) h s
    × (((outcome (replay commands) c).cell.house h).floor ≡ s.time) × (s.node ≡ ((replay commands).house h).node)

-- two commands issue different stamps (own)
abbrev pub IssuesOnce : List Command → Type 0
IssuesOnce all =
    (early mid late : List Command) (c e : Command) (s t : Stamp) → early ++ c ∷ (mid ++ e ∷ late) ≡ all →
    Issues early c s → Issues (early ++ c ∷ mid) e t → s ≡ t → ⊥

-- Skulks whose messages come (own, after C705, skulks).
use Rattle.std.specs.Prelude.{◌≡◌, ℕ, true, List, [], ◌∷◌, ◌++◌, Some}
use Rattle.cds_stamps.specs.declared.stamp.Stamp.{Stamp}
use Rattle.cell_model.specs.Bodies.{round_of}
use Rattle.cell_model.specs.Cells.{Replica, Message, Cell, IsHeld}
use Rattle.cell_model.specs.Commands.{Command, Skulk, Deliver, Stamped, Complete}
use Rattle.cell_model.specs.Completions.{IsLastAck}
use Rattle.cell_model.specs.Sets.{In}
use Rattle.cell_model.specs.Steps.{message_at, outcome, replay}
use Rattle.cell_model.specs.Turns.{running_skulk_stamp}
use Rattle.cell_model.specs.Agreement.{place_of}

-- the command after these begins the skulk t of the directory d at its master h, which asks each
-- other member, and holds r then (own, after C705, skulks)
pub record Begins (early : List Command) (h d : ℕ) (t : Stamp) (r : Replica) : Type 0 where
  pub serials : List ℕ
  pub answer : (outcome (replay early) (Skulk h d)).answer ≡ Stamped t serials
  pub held : IsHeld (replay (early ++ Skulk h d ∷ [])) h d r

-- the house is up, holds the directory in epoch k, and runs no other skulk of it than t (own)
pub record Attends (g : Cell) (h d k : ℕ) (t : Stamp) : Type 0 where
  pub up : (g.house h).up ≡ true
  pub replica : Replica
  pub held : IsHeld g h d replica
  pub epoch : replica.epoch ≡ k
  pub runs : (u : Stamp) → running_skulk_stamp replica.phase ≡ Some u → u ≡ t

-- so it is at each moment of what follows: the house neither crashes nor enters an epoch, nor
-- begins another skulk of the directory (own)
abbrev pub IsUndisturbed : (early late : List Command) → (h d k : ℕ) → Stamp → Type 0
IsUndisturbed early late h d k t =
    (past left : List Command) → past ++ left ≡ late → Attends (replay (early ++ past)) h d k t

-- at some place of what follows the message is delivered: it is not lost, and its receiver is up
-- and holds the directory in the message's epoch (own)
pub record IsDelivered (early late : List Command) (m : Message) : Type 0 where
  pub past : List Command
  pub serial : ℕ
  pub left : List Command
  pub parts : past ++ Deliver serial ∷ left ≡ late
  pub message : message_at (replay (early ++ past)) serial ≡ Some m
  pub up : ((replay (early ++ past)).house m.receiver).up ≡ true
  pub replica : Replica
  pub held : IsHeld (replay (early ++ past)) m.receiver m.dir replica
  pub epoch : replica.epoch ≡ m.epoch

-- each message of the skulk that is posted is delivered: a question, an answer, or that it is
-- complete; in whatever order, with whatever else between, and however often (own)
abbrev pub IsFair : (early late : List Command) → (d : ℕ) → Stamp → Type 0
IsFair early late d t =
    (m : Message) → In m (replay (early ++ late)).bag → m.dir ≡ d → round_of m.body ≡ Some t
    → IsDelivered early late m

-- a delivery at the house h answers that the skulk of d is complete: it brings the answer of the
-- second round that was the last to come (own)
pub record IsComplete (early late : List Command) (h d : ℕ) (t : Stamp) : Type 0 where
  pub past : List Command
  pub serial : ℕ
  pub left : List Command
  pub parts : past ++ Deliver serial ∷ left ≡ late
  pub serials : List ℕ
  pub place : place_of (replay (early ++ past)) (Deliver serial) ≡ Some (h, d)
  pub answer : (outcome (replay (early ++ past)) (Deliver serial)).answer ≡ Complete t serials
  pub last : IsLastAck (replay (early ++ past)) serial t

-- a skulk that nothing disturbs, and whose messages are delivered, is complete (own)
abbrev pub SkulksEnd : (early late : List Command) → Type 0
SkulksEnd early late =
    (h d : ℕ) (t : Stamp) (r : Replica) → Begins early h d t r
    → IsUndisturbed (early ++ Skulk h d ∷ []) late h d r.epoch t
    → IsFair (early ++ Skulk h d ∷ []) late d t → IsComplete (early ++ Skulk h d ∷ []) late h d t

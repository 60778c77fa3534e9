-- Which delivery completes a skulk, and where one completes at once (own, after C705, skulks).
use Rattle.std.specs.Prelude.{◌≡◌, ℕ, false, true, List, [], ◌∷◌, Some, None}
use Rattle.cds_stamps.specs.declared.stamp.Stamp.{Stamp}
use Rattle.cds_stamps.specs.Members.{master_of, others_of, is_listed}
use Rattle.cell_model.specs.Sets.{In}
use Rattle.cell_model.specs.Cells.{Spreading, Replica, SpreadAck, Message, Cell, IsHeld}
use Rattle.cell_model.specs.Commands.{Skulk, Deliver, Complete}
use Rattle.cell_model.specs.Steps.{first_refusal, refusals_of, is_down, message_at, outcome}
use Rattle.cell_model.specs.Turns.{stamp_at}

-- the serial n is that of the last missing answer of the second round of t: it comes from a member,
-- its receiver is up, holds its epoch and runs that round, and with it has taken the answer of each
-- other member (own)
pub record IsLastAnswer (g : Cell) (n : ℕ) (t : Stamp) : Type 0 where
  pub message : Message
  pub replica : Replica
  pub answered : List ℕ
  pub at : message_at g n ≡ Some message
  pub body : message.body ≡ SpreadAck t
  pub up : is_down g message.receiver ≡ false
  pub held : IsHeld g message.receiver message.dir replica
  pub epoch : message.epoch ≡ replica.epoch
  pub member : is_listed message.sender replica.members ≡ true
  pub round : replica.phase ≡ Spreading t answered
  pub all : (y : ℕ) → In y (others_of message.receiver replica.members) → In y (message.sender ∷ answered)

-- a delivery answers Complete only with such an answer, and always with it (own)
pub record CompletesAtLast (g : Cell) (n : ℕ) : Type 0 where
  pub only : (t : Stamp) (ns : List ℕ) → (outcome g (Deliver n)).answer ≡ Complete t ns → IsLastAnswer g n t
  pub always : (t : Stamp) → IsLastAnswer g n t → (ns : List ℕ) × ((outcome g (Deliver n)).answer ≡ Complete t ns)

-- a skulk of the directory begins at the house with this stamp: no test of the command refuses it,
-- and the house holds the directory as its master; and no other house is in its list (own)
pub record IsLoneMaster (g : Cell) (h d : ℕ) (t : Stamp) : Type 0 where
  pub replica : Replica
  pub meant : first_refusal (refusals_of g (Skulk h d)) ≡ None
  pub held : IsHeld g h d replica
  pub master : master_of replica.members ≡ h
  pub alone : others_of h replica.members ≡ []
  pub stamp : stamp_at (g.house h) ≡ Some t

-- a skulk completes in the step that begins it only at such a master, and always there (own)
pub record CompletesAlone (g : Cell) (h d : ℕ) : Type 0 where
  pub only : (t : Stamp) (ns : List ℕ) → (outcome g (Skulk h d)).answer ≡ Complete t ns → IsLoneMaster g h d t
  pub always : (t : Stamp) → IsLoneMaster g h d t → (outcome g (Skulk h d)).answer ≡ Complete t []

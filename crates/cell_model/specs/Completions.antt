-- Which answers come, and where a skulk completes (own, after C705, skulks).
use Rattle.std.specs.Prelude.{◌≡◌, ℕ, List, [], Some}
use Rattle.cds_stamps.specs.declared.stamp.Stamp.{Stamp}
use Rattle.cds_stamps.specs.Members.{others_of}
use Rattle.cell_model.specs.Sets.{In}
use Rattle.cell_model.specs.Cells.{Spreading, Replica, SpreadAck, Message, Cell, IsHeld}
use Rattle.cell_model.specs.Commands.{Command, Skulk, Deliver, Foreign, Complete}
use Rattle.cell_model.specs.Steps.{message_at, outcome}
use Rattle.cell_model.specs.Rounds.{TookSpread}

-- the delivery of the serial n completes the skulk t, which runs in its second round at the
-- receiver: the message is an answer of that round, and each other member posted one (own)
pub record IsLastAck (g : Cell) (n : ℕ) (t : Stamp) : Type 0 where
  pub message : Message
  pub replica : Replica
  pub answered : List ℕ
  pub at : message_at g n ≡ Some message
  pub body : message.body ≡ SpreadAck t
  pub held : IsHeld g message.receiver message.dir replica
  pub phase : replica.phase ≡ Spreading t answered
  pub all : (y : ℕ) → In y (others_of message.receiver replica.members) → TookSpread g message.dir t y

-- a skulk at a master that is alone completes in the step that begins it (own)
pub record IsLone (g : Cell) (h d : ℕ) : Type 0 where
  pub replica : Replica
  pub held : IsHeld g h d replica
  pub none : others_of h replica.members ≡ []

-- the two ways in which a skulk completes (own)
pub data CompletesBy (g : Cell) (t : Stamp) : Command → Type 0 where
  with_last : (n : ℕ) → IsLastAck g n t → CompletesBy g t (Deliver n)
  at_once : (h d : ℕ) → IsLone g h d → CompletesBy g t (Skulk h d)

-- what is never answered, and when it is answered that a skulk completed (own)
pub record AnswersHold (g : Cell) (c : Command) : Type 0 where
  pub not_foreign : (outcome g c).answer ≡ Foreign → ⊥
  pub completes : (t : Stamp) (ns : List ℕ) → (outcome g c).answer ≡ Complete t ns → CompletesBy g t c

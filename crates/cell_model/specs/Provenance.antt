-- Where messages, epochs and histories come from.
use Rattle.std.specs.Prelude.{◌≡◌, ℕ, ◌<◌, ◌≤◌, ◌⊎◌, List, Some}
use Rattle.cds_stamps.specs.Members.{Member, since_in}
use Rattle.cell_model.specs.Cells.{Replica, Slot, Absent, Gone, Held, Copy, Join, Leave, Message, Cell, IsHeld}
use Rattle.cell_model.specs.Bodies.{marks_in, copy_in}
use Rattle.cell_model.specs.Commands.{Command, Deliver}
use Rattle.cell_model.specs.Sets.{In, IsPart}
use Rattle.cell_model.specs.Turns.{copy_of, replica_of_copy}
use Rattle.cell_model.specs.Steps.{message_at}

-- the epoch of a slot: that of its replica, or that in which the house left; 0 where there was
-- nothing
abbrev pub epoch_of : Slot → ℕ
epoch_of Absent = 0
epoch_of (Gone e) = e
epoch_of (Held r) = r.epoch

-- the house holds the directory, or is gone, at an epoch later than k
abbrev pub HasPassed : Cell → (x d k : ℕ) → Type 0
HasPassed g x d k = k < epoch_of ((g.house x).slots d)

-- the epoch, floor, marks and AllUpTo of a message are those of its sender
pub record IsFromSender (g : Cell) (m : Message) : Type 0 where
  pub replica : Replica
  pub held : IsHeld g m.sender m.dir replica
  pub epoch : m.epoch ≡ replica.epoch
  pub floor : m.floor ≡ (g.house m.sender).floor
  pub marks : IsPart (marks_in m.body) replica.history
  pub copy : (c : Copy) → copy_in m.body ≡ Some c → c ≡ copy_of replica

-- the command delivers the message
abbrev pub Delivers : Cell → Command → Message → Type 0
Delivers g c m = (n : ℕ) × (c ≡ Deliver n) × (message_at g n ≡ Some m)

-- the command delivers a Join to a house that held r in an earlier term, and its replica r' is the
-- copy
pub record TakesCopy (g : Cell) (c : Command) (x d : ℕ) (r r' : Replica) : Type 0 where
  pub message : Message
  pub members : List Member
  pub copy : Copy
  pub posted : In message g.bag
  pub delivered : Delivers g c message
  pub receiver : message.receiver ≡ x
  pub dir : message.dir ≡ d
  pub body : message.body ≡ Join members copy
  pub term : r.epoch < since_in members x 0
  pub is : r' ≡ replica_of_copy message members copy

-- the command delivers a Leave to a house, which has this then
pub record TakesLeave (g : Cell) (c : Command) (x d : ℕ) (now : Slot) : Type 0 where
  pub message : Message
  pub posted : In message g.bag
  pub delivered : Delivers g c message
  pub receiver : message.receiver ≡ x
  pub dir : message.dir ≡ d
  pub body : message.body ≡ Leave
  pub is : now ≡ Gone message.epoch

-- what a command c, which leads from g to g', does to messages, epochs and histories
pub record ProvenanceHolds (g : Cell) (c : Command) (g' : Cell) : Type 0 where
  -- a message that the step posts is from its sender
  pub posts : (m : Message) → In m g'.bag → In m g.bag ⊎ IsFromSender g' m
  -- no epoch falls
  pub epochs : (x d : ℕ) → epoch_of ((g.house x).slots d) ≤ epoch_of ((g'.house x).slots d)
  -- a history shrinks where a Join is delivered that makes it a copy, or a Leave, and at nothing
  -- else
  pub shrinks : (x d : ℕ) (r r' : Replica) → IsHeld g x d r → IsHeld g' x d r' → IsPart r.history r'.history ⊎ TakesCopy g c x d r r'
  pub drops : (x d : ℕ) (r : Replica) → IsHeld g x d r → ((r' : Replica) × IsHeld g' x d r') ⊎ TakesLeave g c x d ((g'.house x).slots d)

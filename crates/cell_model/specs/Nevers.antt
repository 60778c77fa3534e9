-- What never comes in a run.
use Rattle.std.specs.Prelude.{◌≡◌, ℕ, ◌+◌, ◌<◌, true, List}
use Rattle.cds_stamps.specs.declared.stamp.Stamp.{Stamp}
use Rattle.cds_stamps.specs.Members.{Member, is_listed}
use Rattle.cell_model.specs.Sets.{In}
use Rattle.cell_model.specs.Cells.{Gathering, Replica, Copy, SpreadAck, Join, Leave, Message, Cell, IsHeld}

-- what the answer Foreign, and the refusal of an epoch that is not above the one held, would speak
-- of does not come
pub record Nevers (g : Cell) : Type 0 where
  -- a message of the epoch that its receiver holds is from a member of the held list
  pub from_member : (m : Message) (r : Replica) → In m g.bag → IsHeld g m.receiver m.dir r → m.epoch ≡ r.epoch → is_listed m.sender r.members ≡ true
  -- a Join has its receiver and its sender in its list
  pub among_members : (m : Message) (members : List Member) (copy : Copy) → In m g.bag → m.body ≡ Join members copy
      → (is_listed m.receiver members ≡ true) × (is_listed m.sender members ≡ true)
  -- a house holds no epoch that the console has not given
  pub given : (h d : ℕ) (r : Replica) → IsHeld g h d r → r.epoch < g.top d + 1
  -- a Leave is of no epoch that its receiver holds
  pub no_leave : (m : Message) (r : Replica) → In m g.bag → m.body ≡ Leave → IsHeld g m.receiver m.dir r → m.epoch ≡ r.epoch → ⊥
  -- while a skulk gathers, no answer of its second round is there
  pub no_ack : (m : Message) (r : Replica) (t : Stamp) (answered : List ℕ) → In m g.bag → m.body ≡ SpreadAck t → IsHeld g m.receiver m.dir r
      → r.phase ≡ Gathering t answered → ⊥

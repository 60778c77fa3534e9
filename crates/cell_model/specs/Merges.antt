-- What messages add to replicas, which can always be merged (own, after C705, merging of replicas).
use Rattle.std.specs.Prelude.{◌≡◌, ◌≤◌, List, Option}
use Rattle.cds_stamps.specs.declared.stamp.Stamp.{Stamp}
use Rattle.cds_stamps.specs.Members.{Member, since_in}
use Rattle.cds_stamps.specs.Semilattice.{maybe}
use Rattle.cds_stamps.specs.Stamps.{later_stamp}
use Rattle.directory.specs.Histories.{Mark, CanMerge}
use Rattle.cell_model.specs.Cells.{Replica, Copy, Update, Gathered, Spread, Join, Message, IsHeld}
use Rattle.cell_model.specs.Commands.{Command}
use Rattle.cell_model.specs.Sets.{In}
use Rattle.cell_model.specs.Steps.{replay}

-- the message adds these marks to the replica of its receiver, and up to this stamp all have all:
-- for an update the receiver's AllUpTo, else the later of both. A Join adds where the receiver
-- keeps its replica (own)
pub data Adds (m : Message) (r : Replica) : List Mark → Option Stamp → Type 0 where
  of_update : (marks : List Mark) → m.body ≡ Update marks → m.epoch ≡ r.epoch → Adds m r marks r.all_up_to
  of_gathered : (t : Stamp) (copy : Copy) → m.body ≡ Gathered t copy → m.epoch ≡ r.epoch → Adds m r copy.history (maybe later_stamp r.all_up_to copy.all_up_to)
  of_spread : (t : Stamp) (copy : Copy) → m.body ≡ Spread t copy → m.epoch ≡ r.epoch → Adds m r copy.history (maybe later_stamp r.all_up_to copy.all_up_to)
  of_join : (members : List Member) (copy : Copy) → m.body ≡ Join members copy → r.epoch ≤ m.epoch → since_in members m.receiver 0 ≤ r.epoch
      → Adds m r copy.history (maybe later_stamp r.all_up_to copy.all_up_to)

-- whatever a posted message adds to its receiver's replica can be merged (own)
abbrev pub MergesHold : List Command → Type 0
MergesHold commands =
    (m : Message) (r : Replica) (marks : List Mark) (t : Option Stamp) → In m (replay commands).bag → IsHeld (replay commands) m.receiver m.dir r
    → Adds m r marks t → CanMerge r.history marks t

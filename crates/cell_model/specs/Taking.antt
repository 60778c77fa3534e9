-- What the receiver of a message may rest on.
use Rattle.std.specs.Prelude.{◌≡◌, true, List, Option}
use Rattle.cds_stamps.specs.declared.stamp.Stamp.{Stamp}
use Rattle.cds_stamps.specs.Members.{is_listed}
use Rattle.directory.specs.Histories.{Mark, IsHistory, CanMerge}
use Rattle.cell_model.specs.Cells.{Replica, Held, House, Message}
use Rattle.cell_model.specs.Bodies.{marks_in}
use Rattle.cell_model.specs.Floors.{TimesBelow}
use Rattle.cell_model.specs.Merges.{Adds}

-- the house can take the message: its marks are a history, and no time in it is above its floor;
-- and where the house holds the directory, it is a member, and what the message adds can be merged
pub record CanTake (now : House) (m : Message) : Type 0 where
  pub history : IsHistory (marks_in m.body)
  pub below : TimesBelow m
  pub receiver : (r : Replica) → now.slots m.dir ≡ Held r → is_listed m.receiver r.members ≡ true
  pub merges : (r : Replica) (marks : List Mark) (t : Option Stamp) → now.slots m.dir ≡ Held r → Adds m r marks t → CanMerge r.history marks t

-- Words of private functions alone: what a house does when it is asked (own, after C705,
-- clearinghouses).
use Rattle.std.specs.Prelude.{◌≡◌, ◌<◌, ℕ, List, [], Option}
use Rattle.cds_stamps.specs.declared.numbers.DirId.{DirId}
use Rattle.cds_stamps.specs.declared.numbers.EpochNo.{EpochNo}
use Rattle.cds_stamps.specs.declared.numbers.HouseNo.{HouseNo}
use Rattle.cds_records.specs.RecordOctets.{image_octets}
use Rattle.cell_model.specs.Cells as model
use Rattle.cell_model.specs.Commands as command
use Rattle.cell_model.specs.Turns.{Turn, HouseStep, Stays, Turns}
use Rattle.house_directory.specs.declared.epochs.EpochRefusal.{EpochRefusal}
use Rattle.house_directory.specs.declared.outgoing.Outgoing.{Outgoing}
use Rattle.house_directory.specs.declared.posted.Posted.{Posted}
use Rattle.house_directory.specs.HouseMessages.{StandEach, posts_to, leave_of, numbers_of}
use Rattle.clearinghouse.specs.HouseImages.{image_of}
use Rattle.clearinghouse.specs.HouseLetters.{posts_at, epoch_posts_at, sender_of}
use Rattle.cds_cell.specs.declared.house.CellHouse.{CellHouse}
use Rattle.cds_cell.specs.declared.house.HouseState.{HouseState}
use Rattle.cds_cell.specs.declared.house.HouseState.TheVariants as state
use Rattle.cds_cell.specs.CellHouses.{StandsAtHouse}

-- a house of the cell after a call: its number, node and clock are the same (own)
pub record IsSameHouse (old new : CellHouse) : Type 0 where
  pub house : new.house ≡ old.house
  pub node : new.node ≡ old.node
  pub clock : new.clock ≡ old.clock

-- what a house has to post about a directory, if it is up (own)
abbrev pub posted_by : HouseState → DirId → Option Outgoing → List Posted
posted_by (state.Up c) dir outgoing = posts_at c dir outgoing
posted_by (state.Down octets) dir outgoing = []

-- likewise of a house of the cell (own)
abbrev pub posted_at : CellHouse → DirId → Option Outgoing → List Posted
posted_at h dir outgoing = posted_by h.state dir outgoing

-- what it has to post as the master of a new epoch, if it is up (own)
abbrev pub epoch_posted_by : HouseState → DirId → EpochNo → List HouseNo → Option EpochRefusal → List Posted
epoch_posted_by (state.Up c) dir k leaving refused = epoch_posts_at c dir k leaving refused
epoch_posted_by (state.Down octets) dir k leaving refused = []

-- the Leaves that it has to post then, if it is up (own)
abbrev pub leaves_by : HouseState → DirId → EpochNo → List HouseNo → List Posted
leaves_by (state.Up c) dir k leaving = posts_to (numbers_of leaving) (leave_of (sender_of c dir) k)
leaves_by (state.Down octets) dir k leaving = []

-- the octets of the image of a house, up or down (own)
abbrev pub octets_in : HouseState → List ℕ
octets_in (state.Up c) = image_octets (image_of c)
octets_in (state.Down octets) = octets

-- an epoch is later than the one that is held, if one is (own)
abbrev pub IsNewEpoch : (k : ℕ) → model.Slot → Type 0
IsNewEpoch k model.Absent = Unit {0}
IsNewEpoch k (model.Gone e) = Unit {0}
IsNewEpoch k (model.Held r) = r.epoch < k

-- a house after a call, and what it posted, are those of a turn (own)
pub record IsTurnAt (turn : Turn) (new : CellHouse) (posted : List Posted) : Type 0 where
  pub stands : StandsAtHouse new turn.house
  pub each : StandEach posted turn.posts

-- a call is a step of the house: what it answers passes the test, and all stays as it was and
-- nothing is posted, or it is the turn (own)
abbrev pub Asks : (command.Answer → Type 0) → HouseStep → (old new : CellHouse) → List Posted → Type 0
Asks Answers (Stays answer) old new posted = Answers answer × (new ≡ old) × (posted ≡ [])
Asks Answers (Turns turn) old new posted = ((ns : List ℕ) → Answers (turn.answer ns)) × IsTurnAt turn new posted

-- The state of a cell: houses with whole histories, messages, and what the console knows (own,
-- after C705, clearinghouses and replica sets).
use Rattle.std.specs.Prelude.{◌≡◌, ℕ, Bool, false, ◌==◌, if◌then◌else◌, List, [], Option}
use Rattle.cds_stamps.specs.declared.stamp.Stamp.{Stamp}
use Rattle.cds_stamps.specs.Members.{Member}
use Rattle.directory.specs.Histories.{Mark}

-- what a master does about its running skulk: nothing runs; the first round of T, or its second,
-- with those of the other members that answered in it (own, after C705, skulks)
pub data Phase : Type 0 where
  Idle : Phase
  Gathering : (t : Stamp) → (answered : List ℕ) → Phase
  Spreading : (t : Stamp) → (answered : List ℕ) → Phase

-- a house's copy of a directory: its epoch and member list, every mark that it has, the stamp up to
-- which all have all, and the phase (own, after C705, replicas)
pub record Replica : Type 0 where
  pub epoch : ℕ
  pub members : List Member
  pub history : List Mark
  pub all_up_to : Option Stamp
  pub phase : Phase

-- what a house has of a directory: nothing ever, nothing since it left in epoch e, or a replica
-- (own)
pub data Slot : Type 0 where
  Absent : Slot
  Gone : (e : ℕ) → Slot
  Held : (r : Replica) → Slot

-- a house, with a slot for each directory number (own)
pub record House : Type 0 where
  pub node : ℕ
  pub clock : ℕ
  pub floor : ℕ
  pub up : Bool
  pub slots : ℕ → Slot

-- a replica as a message carries it: its whole history and its AllUpTo (own, after C705, replicas)
pub record Copy : Type 0 where
  pub history : List Mark
  pub all_up_to : Option Stamp

-- what a message says; an update has its marks with the birth (own, after C705, updates, skulks and
-- new epochs)
pub data Body : Type 0 where
  Update : (marks : List Mark) → Body
  Gather : (t : Stamp) → Body
  Gathered : (t : Stamp) → (copy : Copy) → Body
  Spread : (t : Stamp) → (copy : Copy) → Body
  SpreadAck : (t : Stamp) → Body
  Advance : (t : Stamp) → Body
  Join : (members : List Member) → (copy : Copy) → Body
  Leave : Body

-- a message about a directory, of an epoch, with its sender's floor (own)
pub record Message : Type 0 where
  pub receiver : ℕ
  pub dir : ℕ
  pub sender : ℕ
  pub epoch : ℕ
  pub floor : ℕ
  pub body : Body

-- a cell (own)
pub record Cell : Type 0 where
  -- the numbers of the houses that were made, in order, and each house
  pub made : List ℕ
  pub house : ℕ → House
  -- every message that was posted, that of serial n at place n - 1, and the serials of those that
  -- were lost
  pub bag : List Message
  pub lost : List ℕ
  -- the console's last epoch of each directory, 0 where there is none, and its present list
  pub top : ℕ → ℕ
  pub present : ℕ → List Member
  -- the number that the next `mkdir` gives
  pub next_dir : ℕ

-- a house that was not made (own)
abbrev pub no_house : House
no_house = record { node = 0; clock = 0; floor = 0; up = false; slots = λ d. Absent }

-- the cell without houses, directories and messages (own)
abbrev pub empty_cell : Cell
empty_cell = record { made = []; house = λ h. no_house; bag = []; lost = []; top = λ d. 0; present = λ d. []; next_dir = 2 }

-- a function with another value at k (own)
abbrev pub put : {A : Type 0} → (ℕ → A) → ℕ → A → ℕ → A
put f k v n = if n == k then v else f n

-- the house holds this replica of the directory (own)
abbrev pub IsHeld : Cell → ℕ → ℕ → Replica → Type 0
IsHeld g x d r = (g.house x).slots d ≡ Held r

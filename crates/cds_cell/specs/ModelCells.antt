-- Which cell of the model a cell of the program stands for (own, after C705, clearinghouses and
-- replica sets).
use Rattle.std.specs.Prelude.{◌≡◌, ℕ, zero, suc, ◌+◌, ◌-◌, ◌*◌, ◌≤◌, ◌<◌, ◌^◌, ◌==◌, if◌then◌else◌, max, false, List, [], ◌∷◌, map, length, slice_get}
use Rattle.std.specs.Prelude.{Option, Some, None, Result, is_err, IfOk}
use Rattle.std.specs.declared.alloc.AllocError.{AllocError}
use Rattle.cds_stamps.specs.Members.{members_of}
use Rattle.cds_stamps.specs.Numbers.{root_dir}
use Rattle.cell_model.specs.Cells as model
use Rattle.cell_model.specs.Reached.{IsReached}
use Rattle.cell_model.specs.Steps.{Outcome, is_unknown, stands_twice}
use Rattle.script_answers.specs.declared.answer.Answer.{Answer}
use Rattle.script_answers.specs.declared.answer.Answer.TheVariants as answer
use Rattle.house_directory.specs.HouseMessages.{numbers_of}
use Rattle.cds_cell.specs.declared.cell.Cell.{Cell}
use Rattle.cds_cell.specs.declared.console.Listing.{Listing}
use Rattle.cds_cell.specs.declared.house.CellHouse.{CellHouse}
use Rattle.cds_cell.specs.Bags.{StandsBag}
use Rattle.cds_cell.specs.CellHouses.{StandsAtHouse}
use Rattle.cds_cell.specs.Scripted.{answer_of}

-- ---- houses

-- the house of a number, if it was made (own)
abbrev pub house_of : List CellHouse → ℕ → Option CellHouse
house_of [] x = None
house_of (h ∷ hs) x = if h.house.0 == x then Some h else house_of hs x

-- a house that was made stands for the model's (own)
abbrev pub MaybeStandsHouse : Option CellHouse → model.House → Type 0
MaybeStandsHouse None now = Unit {0}
MaybeStandsHouse (Some h) now = StandsAtHouse h now

-- ---- directories

-- the d-th directory, counted from 1, if there is one (own)
abbrev pub directory_of : List Listing → ℕ → Option Listing
directory_of ls zero = None
directory_of ls (suc i) = slice_get ls i

-- the console knows a directory by its last epoch and its list, or knows none of that number (own)
abbrev pub StandsListing : Option Listing → model.Cell → ℕ → Type 0
StandsListing None g d = g.top d ≡ 0
StandsListing (Some l) g d = (1 ≤ l.epoch.0) × (g.top d ≡ l.epoch.0) × (g.present d ≡ members_of l.members)

-- ---- cells

-- the cell has the model's houses, in the order in which they were made; its console knows the
-- directories 1, 2, 3 and so on as the model's does; its bag has the model's messages; and it is
-- not spent (own)
pub record StandsAs (c : Cell) (g : model.Cell) : Type 0 where
  pub made : g.made ≡ numbers_of (map (λ h. h.house) c.houses.items)
  pub once : stands_twice g.made ≡ false
  pub houses : (x : ℕ) → MaybeStandsHouse (house_of c.houses.items x) (g.house x)
  pub directories : (d : ℕ) → StandsListing (directory_of c.directories.items d) g d
  pub next : g.next_dir ≡ max 2 (length c.directories.items + 1)
  pub bag : StandsBag c.bag g
  pub usable : c.spent ≡ false

-- so it stands for a cell that a list of commands leads to (own)
pub record Stands (c : Cell) (g : model.Cell) : Type 0 where
  pub reached : IsReached g
  pub stands : StandsAs c g

-- ---- steps

-- an answer and a cell are those of a step of the model (own)
pub record IsStep (a : Answer) (c : Cell) (o : Outcome) : Type 0 where
  pub answer : answer_of o.answer ≡ Some a
  pub stands : Stands c o.cell

-- ---- what a step leaves

-- these answers change nothing: refusals, and those to messages that were not taken (own)
abbrev pub UnlessDone : Answer → Type 0 → Type 0
UnlessDone (answer.Refused r) P = P
UnlessDone (answer.Late k e) P = P
UnlessDone (answer.Early k e) P = P
UnlessDone (answer.Stale t r) P = P
UnlessDone answer.NoReplica P = P
UnlessDone _ P = Unit {0}

-- a cell is spent exactly after it ran out of memory, and a cell that is spent answers nothing
-- (own)
pub record IsCall {T : Type 0} (old new : Cell) (result : Result T AllocError) : Type 0 where
  pub spent : new.spent ≡ is_err result
  pub usable : IfOk result (λ _. old.spent ≡ false)

-- ---- bounds

-- the greatest epoch number of directories; 0 where there is none (own)
abbrev pub greatest_epoch : List Listing → ℕ
greatest_epoch [] = 0
greatest_epoch (l ∷ ls) = max l.epoch.0 (greatest_epoch ls)

-- how many directories a cell of the model has: none before its root, and then one for each number
-- that was given (own)
abbrev pub directory_count : model.Cell → ℕ
directory_count g = if is_unknown g root_dir then 0 else g.next_dir - 1

-- the greatest epoch number that a console of the model gave; 0 where there is no directory (own)
pub record IsGreatestEpoch (g : model.Cell) (n : ℕ) : Type 0 where
  pub given : (d : ℕ) × (g.top d ≡ n)
  pub greatest : (d : ℕ) → g.top d ≤ n

-- there is room for a step: for the serial numbers of its messages, a directory and an epoch more
-- (own)
pub record HasRoom (c : Cell) : Type 0 where
  pub messages : c.bag.posted ≤ 2 ^ 62
  pub directories : length c.directories.items + 1 < 2 ^ 32
  pub epochs : greatest_epoch c.directories.items < 2 ^ 62

-- a step posts at most 128 messages, and gives at most one directory and one epoch more (own)
pub record GrowsBy (old new : Cell) : Type 0 where
  pub messages : new.bag.posted ≤ old.bag.posted + 128
  pub directories : length new.directories.items ≤ length old.directories.items + 1
  pub epochs : greatest_epoch new.directories.items ≤ greatest_epoch old.directories.items + 1

-- so many updates post at most 64 messages each, and give no directory and no epoch (own)
pub record GrowsByUpdates (n : ℕ) (old new : Cell) : Type 0 where
  pub messages : new.bag.posted ≤ old.bag.posted + 64 * n
  pub directories : new.directories ≡ old.directories

-- a cell after so many steps, at most (own)
pub record IsWithin (n : ℕ) (c : Cell) : Type 0 where
  pub messages : c.bag.posted ≤ 128 * n
  pub directories : length c.directories.items ≤ n
  pub epochs : greatest_epoch c.directories.items ≤ n

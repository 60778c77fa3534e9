-- Words of private functions alone: what a house of a cell does, and what is posted for it.
use Rattle.std.specs.Prelude.{◌≡◌, ℕ, ◌+◌, ◌≤◌, ◌<◌, max, true, List, [], ◌∷◌, ◌++◌, length, Option, Some, None, slice_get, slice_set}
use Rattle.std.specs.Rc.{rc_slice_items}
use Rattle.cds_stamps.specs.Members.{Member, master_of}
use Rattle.directory.specs.Updates.{Change}
use Rattle.record_fields.specs.Decoding.{IsWhole}
use Rattle.cds_records.specs.RecordOctets.{message_octets}
use Rattle.cds_records.specs.Records as records
use Rattle.cds_messages.specs.Validity.{IsValidMessage}
use Rattle.cds_messages.specs.declared.message.Message.{Message}
use Rattle.cell_model.specs.Cells as model
use Rattle.cell_model.specs.Commands as command
use Rattle.cell_model.specs.Sets.{has}
use Rattle.cell_model.specs.Steps.{Outcome, at_house, cell_with_directory, message_at, serials_of, with_directory}
use Rattle.cell_model.specs.Turns.{HouseStep, Turns, accept, first_joins, found_directory}
use Rattle.house_directory.specs.declared.posted.Posted.{Posted}
use Rattle.house_directory.specs.HouseMessages.{StandsMessage}
use Rattle.cds_cell.specs.declared.bag.Bag.{Bag}
use Rattle.cds_cell.specs.declared.bag.Letter.{Letter}
use Rattle.cds_cell.specs.declared.cell.Cell.{Cell}
use Rattle.cds_cell.specs.declared.house.CellHouse.{CellHouse}
use Rattle.cds_cell.specs.Bags.{letter_at}
use Rattle.cds_cell.specs.CellHouses.{StandsAtHouse}
use Rattle.cds_cell.specs.PrivateHouses.{Asks, IsSameHouse}
use Rattle.cds_cell.specs.PrivateSteps.{IsPlaceOf}
use Rattle.cds_cell.specs.ModelCells.{StandsAs, greatest_epoch}

-- a letter carries a message that was posted
pub record Carries (l : Letter) (p : Posted) : Type 0 where
  pub to : l.to ≡ p.to
  pub octets : rc_slice_items l.shared ≡ message_octets p.message
  pub whole : IsValidMessage p.message → IsWhole records.message p.message (rc_slice_items l.shared)

-- there is a letter, and it does
abbrev pub SomeCarries : Option Letter → Posted → Type 0
SomeCarries None p = ⊥
SomeCarries (Some l) p = Carries l p

-- so many numbers, after n
abbrev pub numbers_behind : ℕ → List Posted → List ℕ
numbers_behind n [] = []
numbers_behind n (p ∷ ps) = (n + 1) ∷ numbers_behind (n + 1) ps

-- these messages were posted after all others, and their numbers were told after those of others
pub record Posts (old new : Bag) (before after : List ℕ) (ps : List Posted) : Type 0 where
  pub posted : new.posted ≡ old.posted + length ps
  pub told : after ≡ before ++ numbers_behind old.posted ps
  pub earlier : (n : ℕ) → n ≤ old.posted → letter_at new n ≡ letter_at old n
  pub each : (i : ℕ) (p : Posted) → slice_get ps i ≡ Some p → SomeCarries (letter_at new (old.posted + i + 1)) p
  pub later : (n : ℕ) → new.posted < n → letter_at new n ≡ letter_at old n

-- what the console knows, and whether the cell is spent, stay
pub record KeepsRest (old new : Cell) : Type 0 where
  pub directories : new.directories ≡ old.directories
  pub spent : new.spent ≡ old.spent

-- another house is at this place, with the same number, node and clock, and all else of the cell
-- but its bag is the same
pub record ChangesAt (old new : Cell) (at : ℕ) (h k : CellHouse) : Type 0 where
  pub was : slice_get old.houses.items at ≡ Some h
  pub houses : new.houses.items ≡ slice_set old.houses.items at k
  pub same : IsSameHouse h k
  pub rest : KeepsRest old new

-- the house at this place, if it stands for the model's `now`, did what the step of its number
-- says, and what it posted is in the bag
pub record ActsAt (old new : Cell) (at : ℕ) (before after : List ℕ) (Answers : command.Answer → Type 0) (now : model.House) (step : ℕ → HouseStep)
    : Type 0 where
  pub was : CellHouse
  pub is : CellHouse
  pub posted : List Posted
  pub changes : ChangesAt old new at was is
  pub posts : Posts old.bag new.bag before after posted
  pub asks : StandsAtHouse was now → now.up ≡ true → Asks Answers (step was.house.0) was is posted

-- an answer that tells serial numbers tells these
abbrev pub Tells : command.Answer → List ℕ → Type 0
Tells (command.Posted ns) ms = ns ≡ ms
Tells (command.Made d s ns) ms = ns ≡ ms
Tells (command.Stamped s ns) ms = ns ≡ ms
Tells (command.NewEpoch e ns) ms = ns ≡ ms
Tells (command.Taken ns) ms = ns ≡ ms
Tells (command.Complete t ns) ms = ns ≡ ms
Tells _ ms = Unit {0}

-- the message of a serial number of the model comes to the house at this place, which is up, as
-- this valid message
pub record Delivers (c : Cell) (g : model.Cell) (n at : ℕ) (message : Message) : Type 0 where
  pub it : model.Message
  pub there : message_at g n ≡ Some it
  pub up : (g.house it.receiver).up ≡ true
  pub place : IsPlaceOf c.houses.items it.receiver at
  pub stands : StandsMessage it.receiver message it
  pub valid : IsValidMessage message

-- ---- new directories

-- a house that was made and is up has nothing of a directory
pub record CanFound (g : model.Cell) (d m : ℕ) : Type 0 where
  pub made : has m g.made ≡ true
  pub up : (g.house m).up ≡ true
  pub absent : (g.house m).slots d ≡ model.Absent

-- the master of a directory holds it with these members, and the Joins that it posted are told
-- after other numbers
pub record MasterFounds (c : Cell) (g : model.Cell) (d : ℕ) (ms : List Member) (before after : List ℕ) : Type 0 where
  pub stands : StandsAs c (at_house g (master_of ms) (Turns (found_directory (master_of ms) (g.house (master_of ms)) d ms))).cell
  pub told : after ≡ before ++ serials_of g (first_joins (g.house (master_of ms)).floor d (master_of ms) ms)

-- the cell has one directory more, which its master holds with these members, and the Joins that it
-- posted are told after other numbers
pub record Founds (c : Cell) (g : model.Cell) (d : ℕ) (ms : List Member) (before after : List ℕ) : Type 0 where
  pub stands : (next : ℕ) → next ≡ max 2 (d + 1) → StandsAs c (record (cell_with_directory g d (master_of ms) ms) { next_dir = next })
  pub told : after ≡ before ++ serials_of g (first_joins (g.house (master_of ms)).floor d (master_of ms) ms)

-- the cell has one directory more, in epoch 1, and at most 64 messages more
pub record GrowsByOne (old new : Cell) : Type 0 where
  pub messages : new.bag.posted ≤ old.bag.posted + 64
  pub directories : length new.directories.items ≡ length old.directories.items + 1
  pub epochs : greatest_epoch new.directories.items ≤ max (greatest_epoch old.directories.items) 1

-- an update at a house that makes a child, and then the child's directory
abbrev pub child_outcome : model.Cell → (h d : ℕ) → Change → (child : ℕ) → List Member → Outcome
child_outcome g h d u child ms =
    let o : Outcome = at_house g h (accept h (g.house h) d u) in
    with_directory o child (master_of ms) ms o.answer

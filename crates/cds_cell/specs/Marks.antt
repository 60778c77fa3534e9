-- What is kept of a cell before a command of one house, to take the cell back to it.
use Rattle.std.specs.Prelude.{◌≡◌, ℕ, ◌+◌, List, length, slice_get, Option, Some, None, Ok, MatchOption}
use Rattle.cds_records.specs.RecordOctets.{image_octets}
use Rattle.cell_model.specs.Commands as command
use Rattle.cell_model.specs.Commands.{Command}
use Rattle.clearinghouse.specs.HouseImages.{house_after_restart, image_of, start_of_octets}
use Rattle.clearinghouse.specs.LawfulHouses.{IsLawful}
use Rattle.cds_cell.specs.declared.cell.Cell.{Cell}
use Rattle.cds_cell.specs.declared.console.Listing.{Listing}
use Rattle.cds_cell.specs.declared.house.CellHouse.{CellHouse}
use Rattle.cds_cell.specs.declared.house.HouseState.{HouseState}
use Rattle.cds_cell.specs.declared.house.HouseState.TheVariants as state
use Rattle.cds_cell.specs.declared.marks.Mark.{Mark}
use Rattle.cds_cell.specs.ModelCells.{directory_of, house_of}

-- octets are the image of a house, up or down, which starts from them
abbrev pub IsImageOf : List ℕ → HouseState → Type 0
IsImageOf octets (state.Up c) = (octets ≡ image_octets (image_of c)) × (IsLawful c → start_of_octets octets ≡ Ok (house_after_restart c))
IsImageOf octets (state.Down kept) = octets ≡ kept

-- likewise of a house of a cell that was made
abbrev pub IsImageAt : List ℕ → Option CellHouse → Type 0
IsImageAt octets None = ⊥
IsImageAt octets (Some h) = IsImageOf octets h.state

-- the console's listing of the directory that gets an epoch by a command, with its place; none of a
-- directory that is not there, and of another command
abbrev pub Replaces : Option (ℕ × Listing) → Cell → Command → Type 0
Replaces o c (command.Epoch d m rs ss) =
    MatchOption o (directory_of c.directories.items d ≡ None) (λ r. (d ≡ r.0 + 1) × (slice_get c.directories.items r.0 ≡ Some r.1))
Replaces o c k = o ≡ None

-- a mark is that of a cell before a command of a house
pub record IsMark (m : Mark) (c : Cell) (x : ℕ) (k : Command) : Type 0 where
  pub image : IsImageAt m.image.items (house_of c.houses.items x)
  pub posted : m.posted ≡ c.bag.posted
  pub directories : m.directories ≡ length c.directories.items
  pub replaced : Replaces m.replaced c k

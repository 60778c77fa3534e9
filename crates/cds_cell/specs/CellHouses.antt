-- Which house of the model a house of the cell stands for (own, after C705, clearinghouses).
use Rattle.std.specs.Prelude.{◌≡◌, ℕ, Bool, true, false, List, Option, Some, None, Ok}
use Rattle.cds_stamps.specs.declared.numbers.HouseNo.{HouseNo}
use Rattle.cds_records.specs.RecordOctets.{image_octets}
use Rattle.cell_model.specs.Cells as model
use Rattle.clearinghouse.specs.declared.house.Clearinghouse.{Clearinghouse}
use Rattle.clearinghouse.specs.HouseImages.{image_of, start_of_octets}
use Rattle.clearinghouse.specs.LawfulHouses.{IsLawful}
use Rattle.clearinghouse.specs.ModelHouses.{StandsHouse}
use Rattle.cds_cell.specs.declared.house.CellHouse.{CellHouse}
use Rattle.cds_cell.specs.declared.house.HouseState.{HouseState}
use Rattle.cds_cell.specs.declared.house.HouseState.TheVariants as state

-- these octets are the image of a clearinghouse, which starts of them (own)
pub record KeepsImage (octets : List ℕ) (c : Clearinghouse) : Type 0 where
  pub starts : start_of_octets octets ≡ Ok c
  pub image : octets ≡ image_octets (image_of c)

-- a clearinghouse stands for a house of the model; it is this one, lawful, and not spent (own)
pub record StandsUp (x : HouseNo) (c : Clearinghouse) (now : model.House) : Type 0 where
  pub number : c.house ≡ x
  pub stands : StandsHouse c now
  pub lawful : IsLawful c
  pub usable : c.spent ≡ false

-- a house that is up is a clearinghouse that stands for it, and the octets of one that is down are
-- the image of such a clearinghouse (own)
abbrev pub StandsState : (x : HouseNo) → HouseState → model.House → Type 0
StandsState x (state.Up c) now = (now.up ≡ true) × StandsUp x c now
StandsState x (state.Down octets) now = (now.up ≡ false) × ((c : Clearinghouse) × KeepsImage octets c × StandsUp x c now)

-- there is a house, and it is up (own)
abbrev pub is_up_state : Option HouseState → Bool
is_up_state None = false
is_up_state (Some (state.Up c)) = true
is_up_state (Some (state.Down octets)) = false

-- a house of the cell stands for one of the model: its node, its clock, and what there is of it
-- (own)
pub record StandsAtHouse (h : CellHouse) (now : model.House) : Type 0 where
  pub node : now.node ≡ h.node
  pub clock : now.clock ≡ h.clock
  pub state : StandsState h.house h.state now

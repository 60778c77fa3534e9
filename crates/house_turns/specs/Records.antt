-- The records of a house.
use Rattle.std.specs.Prelude.{ℕ, List, Option, Some, None}
use Rattle.cds_records.specs.RecordOctets.{image_octets}
use Rattle.cds_records.specs.RecordRanges.{FitsImage}
use Rattle.clearinghouse.specs.HouseImages.{image_of}
use Rattle.clearinghouse.specs.declared.house.Clearinghouse.{Clearinghouse}
use Rattle.house_entries.specs.Bodies.{IsBody}
use Rattle.house_turns.specs.declared.house.House.{House}

-- the image of a house, if it was made (own)
abbrev pub image_in : Option Clearinghouse → Option (List ℕ)
image_in None = None
image_in (Some c) = Some (image_octets (image_of c))

-- the numbers of that image fit their fields (own)
abbrev pub HomeFits : Option Clearinghouse → Type 0
HomeFits None = Unit {0}
HomeFits (Some c) = FitsImage (image_of c)

-- octets are the body of the first record of a segment, of a house as it is, with this text (own)
pub record IsRecord (h : House) (text octets : List ℕ) : Type 0 where
  pub body : IsBody octets h.entry h.clock text (image_in h.home)
  pub fits : HomeFits h.home

-- octets are the body of the record of a turn, after which the house is so: no image follows (own)
pub record IsTurnRecord (h : House) (text octets : List ℕ) : Type 0 where
  pub body : IsBody octets h.entry h.clock text None

-- The one spelling of a tower, as a function of its floors.
use Rattle.std.specs.Prelude.{ℕ, ◌/◌, ◌%◌, ◌<◌, ◌^◌, List, [], ◌∷◌, ◌++◌, length}
use Rattle.std.specs.List.{flat_map, AllByRecursion}
use Rattle.tower_codec.specs.Tower.{Floor}

-- A number below 65,536 in two octets, the lower one first (C706, protocol towers).
abbrev pub number_octets : ℕ → List ℕ
number_octets n = n % 256 ∷ n / 256 ∷ []

-- A part: its length and its octets (C706, protocol towers).
abbrev pub part_octets : List ℕ → List ℕ
part_octets part = number_octets (length part) ++ part

-- A floor: its left and its right part (C706, protocol towers).
abbrev pub floor_octets : Floor → List ℕ
floor_octets floor = part_octets floor.left ++ part_octets floor.right

-- A tower: the number of its floors, and the floors (C706, protocol towers).
abbrev pub tower_octets : List Floor → List ℕ
tower_octets floors = number_octets (length floors) ++ flat_map floor_octets floors

-- A floor has a spelling: its left part isn't empty, and no part is longer than two octets can say
-- (C706, protocol towers).
pub record FloorFits (floor : Floor) : Type 0 where
  pub some : 0 < length floor.left
  pub left : length floor.left < 2 ^ 16
  pub right : length floor.right < 2 ^ 16

-- Floors have a spelling as a tower (C706, protocol towers).
abbrev pub HasSpelling : List Floor → Type 0
HasSpelling floors = (length floors < 2 ^ 16) × AllByRecursion FloorFits floors

-- The octets of a tower, and the first fault of octets that begin no tower (C706, protocol towers).
use Rattle.std.specs.Prelude.{◌≡◌, ◌⊎◌, ℕ, ◌+◌, ◌*◌, ◌<◌, List, [], ◌∷◌, ◌++◌, length}
use Rattle.tower_codec.specs.declared.fault.TowerFault.{TowerFault}
use Rattle.tower_codec.specs.declared.fault.TowerFault.TheVariants.{ShortCount, ShortLength, ShortPart, EmptyLeft}

-- A floor of a tower: its left and its right octets (C706, protocol towers).
pub record Floor : Type 0 where
  pub left : List ℕ
  pub right : List ℕ

-- A number of two octets is in front of the rest, its lower octet first (C706, protocol towers).
abbrev pub IsNumber : List ℕ → ℕ → List ℕ → Type 0
IsNumber [] n rest = ⊥
IsNumber (low ∷ []) n rest = ⊥
IsNumber (low ∷ high ∷ octets) n rest = (low < 256) × (high < 256) × (n ≡ low + 256 * high) × (octets ≡ rest)

-- A part is in front of the rest: its length, then as many octets (C706, protocol towers).
abbrev pub IsPart : List ℕ → List ℕ → List ℕ → Type 0
IsPart octets part rest = IsNumber octets (length part) (part ++ rest)

-- A floor is in front of the rest: a left part of one octet at least, then a right part (C706,
-- protocol towers).
abbrev pub IsFloor : List ℕ → Floor → List ℕ → Type 0
IsFloor octets floor rest =
    (0 < length floor.left) × ((between : List ℕ) × IsPart octets floor.left between × IsPart between floor.right rest)

-- Floors stand one after another in front of the rest.
abbrev pub AreFloors : List ℕ → List Floor → List ℕ → Type 0
AreFloors octets [] rest = octets ≡ rest
AreFloors octets (floor ∷ floors) rest = (between : List ℕ) × IsFloor octets floor between × AreFloors between floors rest

-- The octets are the tower of these floors: how many there are, then each of them, and nothing else
-- (C706, protocol towers).
abbrev pub IsTower : List Floor → List ℕ → Type 0
IsTower floors octets = (body : List ℕ) × IsNumber octets (length floors) body × AreFloors body floors []

-- ---- The first fault. Each word says which field is due, of `count` floors that the octets are to begin with;
-- `rest` is what is left of the octets from that field on.

-- A floor is due, and with it its left length: whole floors stand before it, fewer than are to come
-- (own).
abbrev pub IsFloorDue : ℕ → List ℕ → List ℕ → Type 0
IsFloorDue count octets rest = (floors : List Floor) × (length floors < count) × AreFloors octets floors rest

-- A right length is due: a whole left part of one octet at least is before it (own).
abbrev pub IsRightDue : ℕ → List ℕ → List ℕ → Type 0
IsRightDue count octets rest =
    (floor left : List ℕ) × IsFloorDue count octets floor × (0 < length left) × IsPart floor left rest

-- A left or a right length is due (own).
abbrev pub IsLengthDue : ℕ → List ℕ → List ℕ → Type 0
IsLengthDue count octets rest = IsFloorDue count octets rest ⊎ IsRightDue count octets rest

-- A left part of one octet at least, or a right part, of this length is due (own).
abbrev pub IsPartDue : ℕ → List ℕ → ℕ → List ℕ → Type 0
IsPartDue count octets len rest =
    (field : List ℕ) × IsNumber field len rest × (((0 < len) × IsFloorDue count octets field) ⊎ IsRightDue count octets field)

-- The fault of octets that are to begin with `count` floors. `past` is the place after the last
-- octet (own).
abbrev pub IsFloorsFault : ℕ → ℕ → List ℕ → TowerFault → Type 0
IsFloorsFault past count octets (ShortCount place) = ⊥
IsFloorsFault past count octets (ShortLength place) =
    (place ≡ past) × ((rest : List ℕ) × IsLengthDue count octets rest × (length rest < 2))
IsFloorsFault past count octets (ShortPart place) =
    (place ≡ past) × ((len : ℕ) × (rest : List ℕ) × IsPartDue count octets len rest × (length rest < len))
IsFloorsFault past count octets (EmptyLeft place) =
    (rest : List ℕ) × IsFloorDue count octets (0 ∷ 0 ∷ rest) × (place + length (0 ∷ 0 ∷ rest) ≡ past)

-- The first fault of octets that begin no tower, with its place counted from 1 (own).
abbrev pub IsFault : List ℕ → TowerFault → Type 0
IsFault [] fault = fault ≡ ShortCount 1
IsFault (low ∷ []) fault = fault ≡ ShortCount 2
IsFault (low ∷ high ∷ octets) fault = IsFloorsFault (length octets + 3) (low + 256 * high) octets fault

-- What an input demands of `towers`: whole towers, and what is after the last of them.
use Rattle.std.specs.Prelude.{◌≡◌, ℕ, ◌+◌, ◌≤◌, ◌<◌, List, [], ◌∷◌, ◌++◌, length, take}
use Rattle.tower_codec.specs.declared.fault.TowerFault.{TowerFault}
use Rattle.tower_codec.specs.declared.fault.TowerFault.TheVariants.{EmptyLeft}
use Rattle.tower_codec.specs.Tower.{Floor, IsTower, IsFault}
use Rattle.reply_buffer.specs.declared.limits.TheConstants.{LONGEST_TOWER}
use Rattle.cell_replay.specs.declared.limits.TheConstants.{MOST_TOWERS, TOWER_SIGHT}
use Rattle.cell_replay.specs.declared.towers.StreamFault.{StreamFault}
use Rattle.cell_replay.specs.declared.towers.StreamFault.TheVariants as stream
use Rattle.cell_replay.specs.StreamTexts.{stream_fault_text}
use Rattle.reply_buffer.specs.TowerTexts.{tower_text}
use Rattle.line_forms.specs.Demand.{Demand, faulty_with, ends_with, cut_short_with, with_front}

-- a tower of at most 1,024 octets, and there are at most 16,777,216 of them
abbrev pub IsTaken : ℕ → List Floor → List ℕ → Type 0
IsTaken number floors octets = (number ≤ MOST_TOWERS) × (length octets ≤ LONGEST_TOWER) × IsTower floors octets

-- the octets that are looked at for one tower: one more than it may have
abbrev pub in_sight : List ℕ → List ℕ
in_sight octets = take TOWER_SIGHT octets

-- a tower that is taken is in front
abbrev pub BeginsWithTower : ℕ → List ℕ → Type 0
BeginsWithTower number octets = (floors : List Floor) × (front : List ℕ) × (rest : List ℕ) × IsTaken number floors front × (octets ≡ front ++ rest)

-- the octets show that tower number is at fault, whatever follows them: it is one too many; a left
-- part is empty; or there is neither that nor a whole tower before octet 1,025
abbrev pub ShowsFault : ℕ → List ℕ → StreamFault → Type 0
ShowsFault number octets (stream.Tower (EmptyLeft place)) = (number ≤ MOST_TOWERS) × IsFault (in_sight octets) (EmptyLeft place)
ShowsFault number octets (stream.Tower fault) = ⊥
ShowsFault number octets stream.TooLong =
    (number ≤ MOST_TOWERS) × (LONGEST_TOWER < length octets) × ¬ (BeginsWithTower number (in_sight octets))
    × ((place : ℕ) → ¬ (IsFault (in_sight octets) (EmptyLeft place)))
ShowsFault number octets stream.TooManyTowers = (MOST_TOWERS < number) × (0 < length octets)

-- the input ends within tower number
abbrev pub EndsWithin : ℕ → List ℕ → TowerFault → Type 0
EndsWithin number octets (EmptyLeft place) = ⊥
EndsWithin number octets fault = (number ≤ MOST_TOWERS) × (0 < length octets) × (length octets ≤ LONGEST_TOWER) × IsFault octets fault

-- what is after the whole towers: nothing, a fault that shows, or a part of a tower
pub data Rest : Type 0 where
  Nothing : Rest
  AtFault : (fault : StreamFault) → Rest
  PartOf : (fault : TowerFault) → Rest

-- this is after the whole towers, from tower number on
abbrev pub IsRest : ℕ → List ℕ → Rest → Type 0
IsRest number octets Nothing = octets ≡ []
IsRest number octets (AtFault fault) = ShowsFault number octets fault
IsRest number octets (PartOf fault) = EndsWithin number octets fault

-- the octets are these towers, from tower number on, and then this
abbrev pub AreTowers : ℕ → List ℕ → List (List Floor) → Rest → Type 0
AreTowers number octets [] rest = IsRest number octets rest
AreTowers number octets (floors ∷ towers) rest =
    (front : List ℕ) × (behind : List ℕ) × (octets ≡ front ++ behind) × IsTaken number floors front × AreTowers (number + 1) behind towers rest

-- ---- what is due

-- what is due after the last tower
abbrev pub rest_demand : ℕ → Rest → Demand
rest_demand number Nothing = ends_with []
rest_demand number (AtFault fault) = faulty_with (stream_fault_text number fault)
rest_demand number (PartOf fault) = cut_short_with (stream_fault_text number (stream.Tower fault))

-- a line for each tower, and what is due after the last one
abbrev pub towers_demand : ℕ → List (List Floor) → Rest → Demand
towers_demand number [] rest = rest_demand number rest
towers_demand number (floors ∷ towers) rest = with_front (tower_text floors) (towers_demand (number + 1) towers rest)

-- what the octets demand, from tower number on
abbrev pub TowersDemand : ℕ → List ℕ → Demand → Type 0
TowersDemand number octets d = (towers : List (List Floor)) × (rest : Rest) × AreTowers number octets towers rest × (towers_demand number towers rest ≡ d)

-- Words of private contracts: what the octets held show of the next tower.
use Rattle.std.specs.Prelude.{◌≡◌, ◌⊎◌, ℕ, ◌≤◌, ◌<◌, Bool, true, false, nat_lt, if◌then◌else◌, List, [], length, take}
use Rattle.tower_codec.specs.declared.fault.TowerFault.{TowerFault}
use Rattle.tower_codec.specs.declared.fault.TowerFault.TheVariants.{ShortCount, ShortLength, ShortPart, EmptyLeft}
use Rattle.reply_buffer.specs.declared.limits.TheConstants.{LONGEST_TOWER}
use Rattle.cell_replay.specs.declared.limits.TheConstants.{TOWER_SIGHT}
use Rattle.cell_replay.specs.declared.towers.StreamFault.{StreamFault}
use Rattle.cell_replay.specs.declared.towers.StreamFault.TheVariants as stream
use Rattle.cell_replay.specs.declared.towers.Seen.{Seen}
use Rattle.cell_replay.specs.declared.towers.Seen.TheVariants as seen
use Rattle.cell_replay.specs.TowerDemand.{IsTaken, ShowsFault, EndsWithin}

-- the input ends within the tower
abbrev pub EndsBy : ℕ → List ℕ → StreamFault → Type 0
EndsBy number octets (stream.Tower fault) = EndsWithin number octets fault
EndsBy number octets stream.TooLong = ⊥
EndsBy number octets stream.TooManyTowers = ⊥

-- the octets show the fault, or it is that the input ends
abbrev pub TellsFault : ℕ → List ℕ → (ended : Bool) → StreamFault → Type 0
TellsFault number octets ended fault =
    ShowsFault number octets fault ⊎ ((ended ≡ true) × EndsBy number octets fault)

-- no tower and no fault is in front: there is nothing, or a part of a tower
abbrev pub IsUnended : ℕ → List ℕ → Type 0
IsUnended number octets = (octets ≡ []) ⊎ ((fault : TowerFault) × EndsWithin number octets fault)

-- what is seen is there
abbrev pub Sees : ℕ → List ℕ → (ended : Bool) → Seen → Type 0
Sees number octets ended (seen.Tower floors n) = (n ≤ length octets)
    × IsTaken number floors (take n octets)
Sees number octets ended (seen.Fault fault) = TellsFault number octets ended fault
Sees number octets ended seen.More = (ended ≡ false) × (length octets < TOWER_SIGHT)
    × IsUnended number octets
Sees number octets ended seen.End = (ended ≡ true) × (octets ≡ [])

-- what is made of octets that begin no tower, by their number
abbrev pub part_seen : ℕ → TowerFault → (ended : Bool) → Seen
part_seen len fault ended =
    if nat_lt LONGEST_TOWER len then seen.Fault stream.TooLong else
    (if ended then seen.Fault (stream.Tower fault) else seen.More)

-- what is made of a fault of the octets
abbrev pub seen_fault : ℕ → TowerFault → (ended : Bool) → Seen
seen_fault len (EmptyLeft place) ended = seen.Fault (stream.Tower (EmptyLeft place))
seen_fault len (ShortCount place) ended = part_seen len (ShortCount place) ended
seen_fault len (ShortLength place) ended = part_seen len (ShortLength place) ended
seen_fault len (ShortPart place) ended = part_seen len (ShortPart place) ended

-- Words of private contracts: the tower that a line says, floor by floor.
use Rattle.std.specs.Prelude.{◌≡◌, ◌≤◌, ◌<◌, Bool, true, false, length, List, [], ◌∷◌, ◌++◌, Option, Some, None}
use Rattle.tower_codec.specs.Tower.{Floor}
use Rattle.tower_codec.specs.Spelling.{tower_octets}
use Rattle.reply_buffer.specs.TowerTexts.{TowerLine, SaysTower, NoTower}
use Rattle.reply_buffer.specs.declared.limits.TheConstants.{LONGEST_TOWER}

-- whether a word said a floor: it is after the others, and the tower is not too long; or the tower
-- would be
abbrev pub AddsFloor : Bool → Option Floor → (old new : List Floor) → Type 0
AddsFloor true None old new = ⊥
AddsFloor true (Some floor) old new = (new ≡ old ++ floor ∷ []) × (length (tower_octets new) ≤ LONGEST_TOWER)
AddsFloor false None old new = Unit {0}
AddsFloor false (Some floor) old new = LONGEST_TOWER < length (tower_octets (old ++ floor ∷ []))

-- whether a line said a tower
abbrev pub ReadsTower : Bool → TowerLine → List Floor → Type 0
ReadsTower true said floors = said ≡ SaysTower floors
ReadsTower false said floors = said ≡ NoTower

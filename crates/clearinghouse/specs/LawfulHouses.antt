-- Clearinghouses whose tables are valid, whose floor is above all their times, and whose skulks are
-- their own (own, after C705, timestamps and skulks).
use Rattle.std.specs.Prelude.{◌≡◌, Some}
use Rattle.std.specs.FinMap.{get}
use Rattle.cds_stamps.specs.declared.numbers.DirId.{DirId}
use Rattle.house_directory.specs.declared.states.Held.{Held}
use Rattle.house_directory.specs.declared.states.DirState.TheVariants as state
use Rattle.clearinghouse.specs.declared.house.Clearinghouse.{Clearinghouse}
use Rattle.house_directory.specs.LawfulDirectories.{IsLawfulHeld}

-- all that a clearinghouse holds is lawful, and no time of it is above its floor (own)
abbrev pub IsLawful : Clearinghouse → Type 0
IsLawful c = (dir : DirId) (h : Held) → get c.dirs dir ≡ Some (state.Held h) → IsLawfulHeld c.house.0 c.floor.time h

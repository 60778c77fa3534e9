-- The folders that houses leave, and the cell that these are.
use Rattle.std.specs.Prelude.{◌⊎◌, List, [], ◌∷◌, ◌++◌}
use Rattle.house_runs.specs.Folders.{FolderSegment}
use Rattle.cds_base.specs.RunEnds.{Run}
use Rattle.house_program.specs.Files.{Files}
use Rattle.house_program.specs.HouseFolders.{IsHouseFolder}
use Rattle.house_program.specs.Lives.{Lived}
use Rattle.house_program.specs.declared.status.Status.{Status}

-- processes left these files, one after the other, in a folder that had none: the last of them
-- began where a crash leaves nothing but what was left so before, and a crash at any moment of it,
-- or after it, left these (own)
pub data AreLeft {F : Type 0} (kept left_ever : F → Files → Type 0) : Files → Type 0 where
  NoFile : AreLeft kept left_ever []
  ByProcess : (old new : F) (run : Run) (status : Status) (files : Files)
      → ((was : Files) → kept old was ⊎ left_ever old was → AreLeft kept left_ever was)
      → Lived (kept old) (left_ever old) (kept new) (left_ever new) run status
      → kept new files ⊎ left_ever new files → AreLeft kept left_ever files

-- each of these is what the processes of a house left (own)
abbrev pub AreHouseFolders : List Files → Type 0
AreHouseFolders [] = Unit {0}
AreHouseFolders (f ∷ fs) = IsHouseFolder f × AreHouseFolders fs

-- their segments, with those whose files are gone (own)
abbrev pub segments_of : (folders : List Files) → AreHouseFolders folders
    → List (List FolderSegment)
segments_of [] are = []
segments_of (f ∷ fs) are = (are.0.gone ++ are.0.segments) ∷ segments_of fs are.1

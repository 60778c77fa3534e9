-- Houses that run, each with its folder, and the entries that all of their records tell.
use Rattle.std.specs.Prelude.{◌≡◌, ℕ, false, ◌==◌, if◌then◌else◌, List, [], ◌∷◌, map}
use Rattle.cell_model.specs.Agreement.{Converges}
use Rattle.cell_model.specs.Cells.{empty_cell}
use Rattle.cell_model.specs.Steps.{stands_twice}
use Rattle.cell_runs.specs.Entries.{Entry}
use Rattle.cell_runs.specs.HonestRuns.{IsHonest}
use Rattle.cell_runs.specs.Orders.{IsOrderOf, MadeHouse, NoneRefused, commands_of, new_house, numbers_in}
use Rattle.cell_runs.specs.Views.{view_from}
use Rattle.house_runs.specs.Folders.{FolderSegment, IsFolder, folder_bodies}
use Rattle.house_runs.specs.Tales.{TellHouse, TellNoHouse}

-- a house that was made, and its entries
pub record HouseRun : Type 0 where
  pub made : MadeHouse
  pub entries : List Entry

-- the houses of runs
abbrev pub houses_in : List HouseRun → List MadeHouse
houses_in = map (λ r. r.made)

-- the entries of the house x
abbrev pub entries_at : List HouseRun → (x : ℕ) → List Entry
entries_at [] x = []
entries_at (r ∷ rs) x = if r.made.house == x then r.entries else entries_at rs x

-- all of these are folders
abbrev pub AreFolders : List (List FolderSegment) → Type 0
AreFolders [] = Unit {0}
AreFolders (f ∷ fs) = IsFolder f × AreFolders fs

-- the records of folders tell these runs, one each but where no house was made yet
pub data TellRuns : List (List FolderSegment) → List HouseRun → Type 0 where
  TellNoRun : TellRuns [] []
  TellWithout : (f : List FolderSegment) (fs : List (List FolderSegment)) (rs : List HouseRun)
      → TellNoHouse (folder_bodies f) → TellRuns fs rs → TellRuns (f ∷ fs) rs
  TellRun : (f : List FolderSegment) (fs : List (List FolderSegment))
      (r : HouseRun) (rs : List HouseRun)
      → TellHouse (folder_bodies f) r.made r.entries → TellRuns fs rs
      → TellRuns (f ∷ fs) (r ∷ rs)

-- no number of a house and no node is there twice
pub record AreDistinct (houses : List MadeHouse) : Type 0 where
  pub numbers : stands_twice (numbers_in houses) ≡ false
  pub nodes : stands_twice (map (λ h. h.node) houses) ≡ false

-- commands do what these runs tell: each house sees its own entries, no command is refused, and the
-- replicas converge
pub record AreDone (rs : List HouseRun) (line : List (ℕ × Entry)) : Type 0 where
  pub views : (x : ℕ)
      → view_from empty_cell x (commands_of (houses_in rs) line) ≡ entries_at rs x
  pub done : NoneRefused (commands_of (houses_in rs) line)
  pub settled : Converges (commands_of (houses_in rs) line)

-- these are runs of houses that do as the model does
abbrev pub AreHonest : List HouseRun → Type 0
AreHonest [] = Unit {0}
AreHonest (r ∷ rs) = IsHonest r.made.house (new_house r.made.node) r.entries × AreHonest rs

-- folders are those of a cell: they tell runs of honest houses, and the commands of any order of
-- these do what they tell, if no number and no node is there twice
pub record AreOfCell (folders : List (List FolderSegment)) : Type 0 where
  pub runs : List HouseRun
  pub tell : TellRuns folders runs
  pub honest : AreHonest runs
  pub cell : AreDistinct (houses_in runs) → (line : List (ℕ × Entry))
      → IsOrderOf (houses_in runs) (entries_at runs) line → AreDone runs line

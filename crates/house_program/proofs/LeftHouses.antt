-- What processes left is the folder of a house, and folders of houses are those of a cell.
use Rattle.std.proofs.Common.{List, [], ◌∷◌, ◌⊎◌, inl, inr, ⊎_elim, refl}
use Rattle.house_runs.specs.Runs.{AreFolders}
use Rattle.house_program.specs.Files.{Files}
use Rattle.house_program.specs.HouseCells.{AreHouseFolders, ByProcess, AreLeft, NoFile, segments_of}
use Rattle.house_program.specs.HouseFolders.{IsHouseFolder}
use Rattle.house_program.proofs.ProcessLemmas.{lived_house}

no_file : IsHouseFolder []
no_file = record { gone = []; segments = []; folder = tt; last_is_there = λ none. refl; are = refl }

pub left_by_house : {F : Type 0} (kept ever : F → Files → Type 0) (files : Files) → AreLeft kept ever files → IsHouseFolder files
left_by_house kept ever _ NoFile = no_file
left_by_house kept ever _ (ByProcess old new run status files was lived left) =
    let both =
    lived_house (kept old) (ever old) (kept new) (ever new) run status lived (λ f k. left_by_house kept ever f (was f (inl k)))
    (λ f e. left_by_house kept ever f (was f (inr e))) in
    ⊎_elim (λ k. both.0 files k) (λ e. both.1 files e) left

pub are_folders : (folders : List Files) (are : AreHouseFolders folders) → AreFolders (segments_of folders are)
are_folders [] are = tt
are_folders (f ∷ fs) are = (are.0.folder, are_folders fs are.1)

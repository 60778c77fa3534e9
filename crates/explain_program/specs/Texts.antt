-- What is said of folders that are not read to their ends.
use Rattle.std.specs.Prelude.{ℕ, List, ◌∷◌, [], ◌++◌, codes, decimal}
use Rattle.std.specs.List.{flat_map}
use Rattle.house_logs.specs.Faults.{fault_text, numbered}
use Rattle.explain_program.specs.declared.folder.FolderFault.{FolderFault}
use Rattle.explain_program.specs.declared.folder.FolderFault.TheVariants as why
use Rattle.explain_program.specs.declared.told.PlacedFault.{PlacedFault}

-- a segment that is missing
abbrev pub missing_said : ℕ → List ℕ
missing_said n = numbered (codes "segment ") n ++ codes " is missing"

-- why a folder is not read to its end (own)
abbrev pub why_text : FolderFault → List ℕ
why_text (why.Missing n) = missing_said n
why_text (why.BadLog f) = fault_text f

-- the place of a folder on the command line
abbrev pub folder_said : (place : ℕ) → List ℕ
folder_said place = numbered (codes "# unexplained: folder ") place

-- why, and the end of the line
abbrev pub why_said : FolderFault → List ℕ
why_said f = codes ": " ++ (why_text f ++ 10 ∷ [])

-- the line of a folder, a comment of a script: its place, and why
abbrev pub fault_line : PlacedFault → List ℕ
fault_line p = folder_said p.place ++ why_said p.fault

-- those of folders
abbrev pub fault_lines : List PlacedFault → List ℕ
fault_lines = flat_map fault_line

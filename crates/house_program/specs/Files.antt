-- The numbered files of a folder, and what a crash may leave of them.
use Rattle.std.specs.Prelude.{◌≡◌, ◌⊎◌, ℕ, Bool, true, false, List, [], ◌∷◌, ◌++◌, Option, None, Some, Result, Ok, Err}
use Rattle.std.specs.List.{last_or}
use Rattle.cds_base.specs.Counts.{Rose}
use Rattle.house_program.specs.declared.folder.FolderFault.{FolderFault}
use Rattle.house_program.specs.declared.folder.FolderFault.TheVariants.{Failed, OutOfMemory, Taken, Unreadable}
use Rattle.house_program.specs.declared.folder.FolderCounts.{FolderCounts}
use Rattle.house_program.specs.declared.folder.LastFile.{LastFile}

-- a file whose name is a number, and its octets (own)
pub record NumberedFile : Type 0 where
  pub number : ℕ
  pub octets : List ℕ

-- files, in the order of their numbers (own)
abbrev pub Files : Type 0
Files = List NumberedFile

-- a file as it was read (own)
abbrev pub file_of : LastFile → NumberedFile
file_of f = record { number = f.number; octets = f.octets.items }

-- the number of a file, or 0 (own)
abbrev pub number_in : Option NumberedFile → ℕ
number_in None = 0
number_in (Some f) = f.number

-- the last file, if there is one (own)
abbrev pub last_file : Files → Option NumberedFile
last_file = last_or None

-- a crash may leave these other files, and then the one of this number, with octets that a crash
-- may leave of it (own)
pub record WithFile (others : Files → Type 0) (number : ℕ) (may_leave : List ℕ → Type 0)
    (files : Files) : Type 0 where
  pub front : Files
  pub octets : List ℕ
  pub before : others front
  pub left : may_leave octets
  pub split : files ≡ front ++ record { number = number; octets = octets } ∷ []

-- a call after which a crash leaves nothing that it might not have left before (own)
pub record Quiet {F : Type 0} (kept left_ever : F → Files → Type 0) (named_at : F → ℕ → ℕ → Type 0)
    (old new : F) : Type 0 where
  pub fewer : (files : Files) → kept new files → kept old files
  pub calm : (files : Files) → left_ever new files → left_ever old files
  pub names : (number moment : ℕ) → named_at new number moment → named_at old number moment

-- the count of this fault rose, and no other did; of memory there is none (own)
abbrev pub RoseAt : FolderFault → (before now : FolderCounts) → Type 0
RoseAt Unreadable before now =
    Rose before.unreadable now.unreadable × (now.taken ≡ before.taken)
    × (now.failed ≡ before.failed) × (now.files ≡ before.files)
RoseAt Taken before now =
    (now.unreadable ≡ before.unreadable) × Rose before.taken now.taken
    × (now.failed ≡ before.failed) × (now.files ≡ before.files)
RoseAt Failed before now =
    (now.unreadable ≡ before.unreadable) × (now.taken ≡ before.taken)
    × Rose before.failed now.failed × (now.files ≡ before.files)
RoseAt OutOfMemory before now = now ≡ before

-- the count of files of which a call failed rose, and no other did (own)
abbrev pub FileRose : (before now : FolderCounts) → Type 0
FileRose before now =
    (now.unreadable ≡ before.unreadable) × (now.taken ≡ before.taken)
    × (now.failed ≡ before.failed) × Rose before.files now.files

-- a file was taken back: it is counted if a call of it failed (own)
abbrev pub CountsFile : (failed : Bool) → (before now : FolderCounts) → Type 0
CountsFile true before now = FileRose before now
CountsFile false before now = now ≡ before

-- a call answers a fault only where its count rose, and no other one did (own)
abbrev pub HasFolderCause : {T : Type 0} → (before now : FolderCounts) → Result T FolderFault
    → Type 0
HasFolderCause before now (Ok x) = now ≡ before
HasFolderCause before now (Err fault) = RoseAt fault before now

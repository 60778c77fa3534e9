-- Why a process ends with its status.
use Rattle.std.specs.Prelude.{◌≡◌, ◌⊎◌, ℕ, List, [], ◌∷◌, ◌++◌, Option, Some, Result, Ok, Err, map}
use Rattle.cds_base.specs.Counts.{Rose}
use Rattle.house_entries.specs.Bodies.{head_of}
use Rattle.house_journal.specs.JournalRecords.{images}
use Rattle.house_segments.specs.Reading.{EndedLater, IsLast, IsSegment, end_of}
use Rattle.house_serving.specs.declared.ending.Ending.TheVariants as endings
use Rattle.house_turns.specs.Openings.{Differs, MayEnd, RedoneBy, Resumes}
use Rattle.house_turns.specs.declared.house.House.{House}
use Rattle.house_program.specs.Beginnings.{body_in, status_not_read}
use Rattle.house_program.specs.Files.{FileRose, Files, NumberedFile, RoseAt, last_file}
use Rattle.house_program.specs.Statuses.{status_after, status_of_folder}
use Rattle.house_program.specs.declared.folder.FolderCounts.{FolderCounts}
use Rattle.house_program.specs.declared.folder.FolderFault.{FolderFault}
use Rattle.house_program.specs.declared.folder.FolderFault.TheVariants as faults
use Rattle.house_program.specs.declared.segments.Left.{Left}
use Rattle.house_program.specs.declared.status.Status.{Status}
use Rattle.house_program.specs.declared.status.Status.TheVariants as statuses

-- ---- the last file

-- a house that does these records again does other than one of them says (own)
pub record DoesOther (h : House) (records : List (List ℕ)) : Type 0 where
  pub done : List (List ℕ)
  pub one : List ℕ
  pub others : List (List ℕ)
  pub at : House
  pub split : records ≡ done ++ one ∷ others
  pub redone : RedoneBy h (map body_in done) at
  pub differs : Differs at (body_in one)

-- no house goes on from these records after a head, and the status says why: there is none; no
-- house resumes with the first; one that does, does other than a later one says; or it is unlawful
-- after them (own)
pub data NoHouseOf (records : List (List ℕ)) : Status → Type 0 where
  HeadAlone : records ≡ [] → NoHouseOf records statuses.BadFolder
  NoneResumes : (first : List ℕ) (others : List (List ℕ)) → records ≡ first ∷ others
      → ((h : House) → ¬ Resumes (body_in first) h) → NoHouseOf records statuses.BadFolder
  DoesAnother : (first : List ℕ) (others : List (List ℕ)) (begun : House)
      → records ≡ first ∷ others → Resumes (body_in first) begun → DoesOther begun others
      → NoHouseOf records statuses.OtherDeeds
  Unlawful : (first : List ℕ) (others : List (List ℕ)) (begun at : House)
      → records ≡ first ∷ others → Resumes (body_in first) begun
      → RedoneBy begun (map body_in others) at → ¬ MayEnd at.home → NoHouseOf records statuses.BadFolder

-- octets are records of a segment of this number that follow each other, and the list never ended
-- later (own)
pub record IsWholeSegment (number : ℕ) (octets : List ℕ) : Type 0 where
  pub body : List ℕ
  pub digest : List ℕ
  pub last : IsLast (head_of number []) (images octets) body digest
  pub ended : EndedLater digest (end_of octets) → ⊥

-- no house goes on from the octets of a segment of this number, and the status says why: they are
-- no segment; or no house goes on from the records after its head (own)
pub data CannotGoOn (number : ℕ) (octets : List ℕ) (status : Status) : Type 0 where
  NoSegment : (IsSegment (head_of number []) octets → ⊥)
      → status ≡ status_not_read (images octets) → CannotGoOn number octets status
  NoHouse : IsWholeSegment number octets → (head : List ℕ) (records : List (List ℕ))
      → images octets ≡ head ∷ records → NoHouseOf records status
      → CannotGoOn number octets status

-- no house goes on from the last file, which is this one, whatever a crash leaves (own)
pub record IsFolderRefused (kept : Files → Type 0) (status : Status) : Type 0 where
  pub file : NumberedFile
  pub always : (files : Files) → kept files → last_file files ≡ Some file
  pub why : CannotGoOn file.number file.octets status

-- ---- counts of what failed

-- how often reads of the input and writes of the output failed; and how many calls of the folder
-- were not done, and of how many of its files a call failed (own)
pub record ProcessCounts : Type 0 where
  pub reads : ℕ
  pub writes : ℕ
  pub folder : FolderCounts

-- those of a source, a sink and a folder (own)
abbrev pub counts_of : {S K F : Type 0} → (reads : S → ℕ) → (writes : K → ℕ)
    → (folder : F → FolderCounts) → S → K → F → ProcessCounts
counts_of reads writes folder s k f =
    record { reads = reads s; writes = writes k; folder = folder f }

-- the count of this fault of the folder rose, and no other did (own)
abbrev pub FolderFailed : FolderFault → (before now : ProcessCounts) → Type 0
FolderFailed fault before now =
    (now.reads ≡ before.reads) × (now.writes ≡ before.writes)
    × RoseAt fault before.folder now.folder

-- a call of a file failed, and no other call (own)
abbrev pub FileFailed : (before now : ProcessCounts) → Type 0
FileFailed before now =
    (now.reads ≡ before.reads) × (now.writes ≡ before.writes) × FileRose before.folder now.folder

-- what failed where a process ends with this status: a disk fails in a call of the folder or of one
-- of its files (own)
abbrev pub HasStatusCause : (refused : Status → Type 0) → (before now : ProcessCounts) → Status
    → Type 0
HasStatusCause refused before now statuses.ReadFault =
    Rose before.reads now.reads × (now.writes ≡ before.writes) × (now.folder ≡ before.folder)
HasStatusCause refused before now statuses.WriteFault =
    (now.reads ≡ before.reads) × Rose before.writes now.writes × (now.folder ≡ before.folder)
HasStatusCause refused before now statuses.DiskFault =
    FileFailed before now ⊎ FolderFailed faults.Failed before now
HasStatusCause refused before now statuses.BadFolder =
    FolderFailed faults.Unreadable before now ⊎ ((now ≡ before) × refused statuses.BadFolder)
HasStatusCause refused before now statuses.Taken = FolderFailed faults.Taken before now
HasStatusCause refused before now statuses.OtherVersion =
    (now ≡ before) × refused statuses.OtherVersion
HasStatusCause refused before now statuses.OtherDeeds = (now ≡ before) × refused statuses.OtherDeeds
HasStatusCause refused before now statuses.Usage = ⊥
HasStatusCause refused before now statuses.Ok = now ≡ before
HasStatusCause refused before now statuses.BadInput = now ≡ before
HasStatusCause refused before now statuses.OutOfMemory = now ≡ before
HasStatusCause refused before now statuses.Full = now ≡ before

-- what failed of the calls of a folder alone, where a process ends with a status that is no success
-- (own)
abbrev pub HasFolderEnd : (refused : Status → Type 0) → (before now : FolderCounts) → Status
    → Type 0
HasFolderEnd refused before now status =
    ((fault : FolderFault) × (status ≡ status_of_folder fault) × RoseAt fault before now)
    ⊎ ((now ≡ before) × ((status ≡ statuses.OutOfMemory) ⊎ refused status))

-- what failed where a process is done with a segment (own)
abbrev pub HasSegmentCause : (before now : ProcessCounts) → Result Left Status → Type 0
HasSegmentCause before now (Ok left) =
    ((status : Status) → status_after left.ending ≡ Some status
    → HasStatusCause (λ s. ⊥) before now status)
    × (left.ending ≡ endings.Grown → now ≡ before)
HasSegmentCause before now (Err status) = HasStatusCause (λ s. ⊥) before now status

-- What the disks of a cell's houses hold, whatever a crash leaves of them.
use Rattle.std.specs.Prelude.{◌≡◌, ◌⊎◌, ℕ, ◌+◌, ◌<◌, if◌then◌else◌, List, [], ◌∷◌, length, slice_get, Option, Some, None, IfSome}
use Rattle.std.specs.List.{last_or}
use Rattle.house_journal.specs.MemoryDisks.{MemState}
use Rattle.house_journal.specs.declared.step.Stop.TheVariants.{Never}
use Rattle.disk_journals.specs.KeptJournals.{Holds, HoldsEither, IsKept, IsNew}
use Rattle.disk_journals.specs.declared.kept.KeptHouse.{KeptHouse}
use Rattle.cell_model.specs.Cells.{Cell}
use Rattle.cell_model.specs.Sets.{has}
use Rattle.cds_cell.specs.CommandImages.{octets_at}
use Rattle.journal_replay.specs.CellJournals.{Lists, JournaledCell, Put, with_put}

-- how many disks there are, and houses at most: the disk of house H is at place H - 1
abbrev pub disk_count : ℕ
disk_count = 255

-- the journals of all houses are on their disks
abbrev pub HoldAll : List MemState → Lists → Type 0
HoldAll disks lists = (i : ℕ) → IfSome (slice_get disks i) (λ m. Holds m (lists (i + 1)))

-- the same while an image is put: a crash leaves the journals without it, or with it
abbrev pub HoldBut : List MemState → Lists → Put → Type 0
HoldBut disks lists p = (i : ℕ) → IfSome (slice_get disks i) (λ m. HoldsEither m (lists (i + 1)) (with_put p lists (i + 1)))

-- images are put one after another: all up to one of them are on the disks, and this one perhaps
abbrev pub ArePutting : List MemState → Lists → List Put → Type 0
ArePutting disks lists [] = HoldAll disks lists
ArePutting disks lists (p ∷ ps) = HoldBut disks lists p ⊎ ArePutting disks (with_put p lists) ps

-- the image of a house that was made
abbrev pub image_in : Cell → (h : ℕ) → Option (List ℕ)
image_in g h = if has h g.made then Some (octets_at g h) else None

-- each journal gives the image of its house, and nothing of a house that was not made
abbrev pub GiveImages : JournaledCell → Type 0
GiveImages s = (i : ℕ) → i < disk_count → last_or None (s.lists (i + 1)) ≡ image_in s.cell (i + 1)

-- ---- houses

-- the journal of each house is open on its disk, or its disk is new
pub record AreKept (houses : List (Option KeptHouse)) (disks : List MemState) : Type 0 where
  pub all_houses : length houses ≡ disk_count
  pub all_disks : length disks ≡ disk_count
  pub each : (i : ℕ) → IfSome (slice_get houses i) (λ h. IfSome (slice_get disks i) (IsKept h))

-- so many new disks
pub record AreNew (disks : List MemState) : Type 0 where
  pub count : length disks ≡ disk_count
  pub each : (i : ℕ) → IfSome (slice_get disks i) IsNew

-- all disks are there, and none of them is set to stop
pub record AreUsable (disks : List MemState) : Type 0 where
  pub count : length disks ≡ disk_count
  pub each : (i : ℕ) → IfSome (slice_get disks i) (λ m. m.stop ≡ Never)

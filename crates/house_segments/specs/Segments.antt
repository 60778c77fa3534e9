-- What a segment is to its callers.
use Rattle.std.specs.Prelude.{◌≡◌, ◌⊎◌, ℕ, ◌+◌, false, List, [], ◌∷◌, ◌++◌, length}
use Rattle.cds_base.specs.Counts.{Rose}
use Rattle.cds_stamps.specs.declared.alloc_or.AllocOr.{AllocOr}
use Rattle.cds_stamps.specs.declared.alloc_or.AllocOr.TheVariants.{Fault, OutOfMemory}
use Rattle.house_journal.specs.declared.disk.Disk.{Ghosts}
use Rattle.house_journal.specs.Journals.{IsReady}
use Rattle.house_journal.specs.JournalRecords.{images}
use Rattle.house_journal.specs.declared.journal.JournalFault.{JournalFault}
use Rattle.house_journal.specs.declared.journal.JournalFault.TheVariants.{DiskFault, Full, Reopen}
use Rattle.house_segments.specs.Chains.{chained, last_digest}
use Rattle.house_segments.specs.declared.segment.Segment.{Segment}

-- its disk
abbrev pub disk_of : {D : Type 0} → Segment D → D
disk_of s = s.disk

-- the place of its closed gate
abbrev pub place_of : {D : Type 0} → Segment D → ℕ
place_of s = s.journal.place

-- how many octets its records have, besides those of the journal
abbrev pub size_of : {D : Type 0} → Segment D → ℕ
size_of s = s.size

-- how many octets a segment with these bodies has: each record also has a gate, its length and a
-- digest, and a gate follows the last one (own)
abbrev pub size_with : List (List ℕ) → ℕ
size_with [] = 1
size_with (body ∷ bodies) = size_with bodies + 41 + length body

-- a segment is not begun by this fault: that of the disk comes only if a call of the disk failed
-- (own)
abbrev pub HasFaultCause : (before now : ℕ) → AllocOr JournalFault → Type 0
HasFaultCause before now (Fault DiskFault) = Rose before now
HasFaultCause before now (Fault Full) = now ≡ before
HasFaultCause before now (Fault Reopen) = ⊥
HasFaultCause before now OutOfMemory = now ≡ before

-- the octets are those of a journal whose records have these bodies
abbrev pub HasBodies : (before : List ℕ) → (bodies : List (List ℕ)) → (octets : List ℕ) → Type 0
HasBodies before bodies octets = images octets ≡ chained before bodies

-- these bodies, or these and one more
abbrev pub IsWithOrWithout : (before : List ℕ) → List (List ℕ) → (body octets : List ℕ) → Type 0
IsWithOrWithout before bodies body octets = HasBodies before bodies octets ⊎ HasBodies before (bodies ++ body ∷ []) octets

-- its records have these bodies, all of them synced, so that each crash leaves exactly them; and
-- more can be put
pub record IsAt {D : Type 0} (g : Ghosts D) (s : Segment D) (before : List ℕ) (bodies : List (List ℕ)) : Type 0 where
  pub ready : IsReady g s.disk s.journal.place
  pub whole : s.journal.broken ≡ false
  pub records : images (g.reads s.disk) ≡ chained before bodies
  pub digest : s.digest ≡ last_digest before bodies

-- Journals as callers see them, why a call of one puts nothing, and what a put leaves the disk to
-- tell.
use Rattle.std.specs.Prelude.{◌≡◌, ◌⊎◌, ℕ, ◌≤◌, ◌<◌, Bool, List, length, Option, Result, Ok, Err}
use Rattle.cds_base.specs.Counts.{Rose}
use Rattle.cds_stamps.specs.declared.alloc_or.AllocOr.{AllocOr}
use Rattle.cds_stamps.specs.declared.alloc_or.AllocOr.TheVariants.{Fault, OutOfMemory}
use Rattle.house_journal.specs.Disks.{Told}
use Rattle.house_journal.specs.Tellings.{Call, Done, Failed, FailedAt}
use Rattle.house_journal.specs.declared.disk.DiskError.{DiskError}
use Rattle.house_journal.specs.declared.disk.DiskError.TheVariants as disk
use Rattle.house_journal.specs.declared.journal.JournalFault.{JournalFault}
use Rattle.house_journal.specs.declared.journal.JournalFault.TheVariants.{DiskFault, Full, Reopen}

-- a journal: the place of its closed gate, and whether it has to be opened again
pub record JournalState : Type 0 where
  pub place : ℕ
  pub broken : Bool

-- what a fault of the disk is to a journal
abbrev pub fault_of : DiskError → AllocOr JournalFault
fault_of disk.Failed = Fault DiskFault
fault_of disk.OutOfMemory = OutOfMemory

-- these answers change nothing
abbrev pub IsRefused : Result (Unit {0}) (AllocOr JournalFault) → Type 0
IsRefused (Err (Fault Full)) = Unit {0}
IsRefused (Err (Fault Reopen)) = Unit {0}
IsRefused _ = ⊥

-- after these the journal has to be opened again
abbrev pub IsBreaking : Result (Unit {0}) (AllocOr JournalFault) → Type 0
IsBreaking (Err (Fault DiskFault)) = Unit {0}
IsBreaking (Err OutOfMemory) = Unit {0}
IsBreaking _ = ⊥

-- what keeps a journal from being opened: a failure of the disk, or out of memory
abbrev pub IsOpenFault : AllocOr JournalFault → Type 0
IsOpenFault (Fault DiskFault) = Unit {0}
IsOpenFault OutOfMemory = Unit {0}
IsOpenFault _ = ⊥

-- a call answers DiskFault only where the count of failures rose, which it does at no other answer
abbrev pub HasJournalCause : {T : Type 0} → (before now : ℕ) → Result T (AllocOr JournalFault) → Type 0
HasJournalCause before now (Err (Fault DiskFault)) = (before ≤ now) × Rose before now
HasJournalCause before now _ = now ≡ before

-- what is told after a put that got as far as the disk: the four calls were done; or one failed; or
-- memory ran out before one
abbrev pub TellsTried : List Call → List ℕ → Told → Result (Unit {0}) (AllocOr JournalFault) → Option Told → Type 0
TellsTried calls file t (Ok x) new = Done calls file t 4 new
TellsTried calls file t (Err (Fault DiskFault)) new = (k : ℕ) × Failed calls file t k new
TellsTried calls file t (Err OutOfMemory) new = (k : ℕ) × (k < 4) × Done calls file t k new
TellsTried calls file t (Err _) new = ⊥

-- a put that did not get as far as the disk answers one of these
abbrev pub IsUntried : Result (Unit {0}) (AllocOr JournalFault) → Type 0
IsUntried (Err (Fault Full)) = Unit {0}
IsUntried (Err (Fault Reopen)) = Unit {0}
IsUntried (Err OutOfMemory) = Unit {0}
IsUntried _ = ⊥

-- what is told after an open: all its calls were done; or one failed, or a read after the first of
-- them; or memory ran out before one, and not before the first
abbrev pub TellsOpen : {T : Type 0} → List Call → List ℕ → Told → Result T (AllocOr JournalFault) → Option Told → Type 0
TellsOpen calls file t (Ok x) new = Done calls file t (length calls) new
TellsOpen calls file t (Err (Fault DiskFault)) new = ((k : ℕ) × FailedAt calls file t k new) ⊎ Done calls file t 1 new
TellsOpen calls file t (Err OutOfMemory) new = (k : ℕ) × (1 ≤ k) × (k < length calls) × Done calls file t k new
TellsOpen calls file t (Err _) new = ⊥

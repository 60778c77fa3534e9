-- Which call failed where a run ends.
use Rattle.std.specs.Prelude.{◌≡◌, ℕ, Result, Err}
use Rattle.cds_base.specs.Counts.{Rose}
use Rattle.house_serving.specs.declared.ending.Ending.{Ending}
use Rattle.house_serving.specs.declared.ending.Ending.TheVariants.{ReadFault, WriteFault, DiskFault}

-- how often calls of a source, of a sink and of a disk have failed
pub record Failures : Type 0 where
  pub reads : ℕ
  pub writes : ℕ
  pub disks : ℕ

abbrev pub failures : (reads writes disks : ℕ) → Failures
failures reads writes disks = record { reads = reads; writes = writes; disks = disks }

-- the counts before a run and after it: the one rose that the ending names, and no other
abbrev pub HasEndingCause : (old new : Failures) → Ending → Type 0
HasEndingCause old new ReadFault =
    Rose old.reads new.reads × (new.writes ≡ old.writes) × (new.disks ≡ old.disks)
HasEndingCause old new WriteFault =
    (new.reads ≡ old.reads) × Rose old.writes new.writes × (new.disks ≡ old.disks)
HasEndingCause old new DiskFault =
    (new.reads ≡ old.reads) × (new.writes ≡ old.writes) × Rose old.disks new.disks
HasEndingCause old new ending =
    (new.reads ≡ old.reads) × (new.writes ≡ old.writes) × (new.disks ≡ old.disks)

-- the same of one line, of which no source is asked
abbrev pub HasAnswerCause : (writes writes' disks disks' : ℕ) → Result (Unit {0}) Ending → Type 0
HasAnswerCause writes writes' disks disks' (Err WriteFault) = Rose writes writes' × (disks' ≡ disks)
HasAnswerCause writes writes' disks disks' (Err DiskFault) = (writes' ≡ writes) × Rose disks disks'
HasAnswerCause writes writes' disks disks' result = (writes' ≡ writes) × (disks' ≡ disks)

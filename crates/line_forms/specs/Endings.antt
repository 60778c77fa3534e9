-- How the parts of a run end.
use Rattle.std.specs.Prelude.{◌≡◌, ◌⊎◌, ℕ, ◌<◌, List, ◌++◌, length, take, Option}
use Rattle.std.specs.Io.KnownBytes.{Appends}
use Rattle.cds_base.specs.Counts.{Rose}
use Rattle.line_forms.specs.declared.endings.Status.{Status}
use Rattle.line_forms.specs.declared.endings.Status.TheVariants.{Ok as AllRead, Usage, BadInput, ReadFault, WriteFault, OutOfMemory, JournalFull}
use Rattle.line_forms.specs.Demand.{Demand}
use Rattle.line_forms.specs.Readings.{Reading}
use Rattle.cds_base.specs.RunEnds.{Run}
use Rattle.line_forms.specs.Runs.{Ended, IsFilled, IsWhole, IsFaulty, IsPart}

-- a source or a sink: the octets that it has left or that it took, where it tells them, and how
-- often it failed
pub record Side : Type 0 where
  pub octets : Option (List ℕ)
  pub faults : ℕ

-- the octets and the failures of a source or a sink
abbrev pub side : Option (List ℕ) → ℕ → Side
side octets faults = record { octets = octets; faults = faults }

-- the same of one that tells them
abbrev pub side_of : {A : Type 0} → (A → Option (List ℕ)) → (A → ℕ) → A → Side
side_of octets faults it = side (octets it) (faults it)

-- the run between these
abbrev pub between : (source source' sink sink' : Side) → Run
between source source' sink sink' =
    record {
      left = source.octets;
      left' = source'.octets;
      written = sink.octets;
      written' = sink'.octets;
      reads = source.faults;
      reads' = source'.faults;
      writes = sink.faults;
      writes' = sink'.faults;
    }

-- a run of a form ends so between these
abbrev pub EndsBetween : Reading → (source source' sink sink' : Side) → Status → Type 0
EndsBetween form source source' sink sink' status = Ended form (between source source' sink sink') status

-- what ends a run, where this was written of what the octets read demand; Answered says that it
-- answers those in front, and Done that nothing is left
abbrev pub IsDue : (Answered : List ℕ → Type 0) → (Done : Type 0) → Status → Demand → List ℕ → Type 0
IsDue Answered Done AllRead d text = Done × IsWhole d text
IsDue Answered Done BadInput d text = IsFaulty Done d text
IsDue Answered Done OutOfMemory d text = IsPart Done d text × Answered text
IsDue Answered Done JournalFull d text = IsFilled d text
IsDue Answered Done Usage d text = ⊥
IsDue Answered Done ReadFault d text = ⊥
IsDue Answered Done WriteFault d text = ⊥

-- what waited went out, and the run ends so; or a part of it, and the sink failed
abbrev pub Finishes : (sink sink' : Side) → (waits : List ℕ) → Status → Status → Type 0
Finishes sink sink' waits status result =
    ((result ≡ status) × Appends sink.octets sink'.octets waits × (sink'.faults ≡ sink.faults))
    ⊎ ((result ≡ WriteFault) × ((k : ℕ) × (k < length waits) × Appends sink.octets sink'.octets (take k waits)) × Rose sink.faults sink'.faults)

-- a text waits after the others, or there was no memory for it
abbrev pub IsQueued : Status → (text waited waits : List ℕ) → Status → Type 0
IsQueued status text waited waits result = ((result ≡ status) × (waits ≡ waited ++ text)) ⊎ ((result ≡ OutOfMemory) × (waits ≡ waited))

-- what waited goes out with a text, and the run ends
abbrev pub StopsWith : (sink sink' : Side) → Status → (text waited : List ℕ) → Status → Type 0
StopsWith sink sink' status text waited result =
    (mid : Status) × (waits : List ℕ) × IsQueued status text waited waits mid × Finishes sink sink' waits mid result

-- Words of private contracts: how one line is taken.
use Rattle.std.specs.Prelude.{◌≡◌, ℕ, ◌<◌, List, length, take, Result, Ok, Err}
use Rattle.std.specs.Io.KnownBytes.{Appends}
use Rattle.cds_base.specs.Counts.{Rose}
use Rattle.cds_base.specs.declared.scan.LineFault.{LineFault}
use Rattle.cds_base.specs.declared.scan.LineFault.TheVariants as fault
use Rattle.line_forms.specs.declared.endings.Status.{Status}
use Rattle.line_forms.specs.declared.endings.Status.TheVariants.{BadInput, ReadFault, WriteFault, OutOfMemory}
use Rattle.line_forms.specs.Endings.{Side}
use Rattle.clerk_turns.specs.declared.clerk.Clerk.{Clerk}
use Rattle.clerk_turns.specs.Turns.{IsTurn}

-- how a run ends at a fault of the lines
abbrev pub status_of : LineFault → Status
status_of fault.ReadFault = ReadFault
status_of (fault.LineTooLong number place) = BadInput
status_of (fault.NotAscii number place) = BadInput
status_of (fault.NoLineEnd number place) = BadInput
status_of (fault.TooManyLines number place) = BadInput

-- a line is taken, and all that is said to it is written, or a part; or memory ran out
abbrev pub TakesLine : Clerk → (line : List ℕ) → Clerk → (sink sink' : Side)
    → Result (Unit {0}) Status → Type 0
TakesLine c line c' sink sink' (Ok x) =
    (said : List ℕ) × IsTurn c line said c' × Appends sink.octets sink'.octets said
    × (sink'.faults ≡ sink.faults)
TakesLine c line c' sink sink' (Err WriteFault) =
    (said : List ℕ) × IsTurn c line said c'
    × ((k : ℕ) × (k < length said) × Appends sink.octets sink'.octets (take k said))
    × Rose sink.faults sink'.faults
TakesLine c line c' sink sink' (Err OutOfMemory) =
    (sink'.octets ≡ sink.octets) × (sink'.faults ≡ sink.faults)
TakesLine c line c' sink sink' (Err other) = ⊥

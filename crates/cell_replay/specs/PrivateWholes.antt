-- Words of private contracts: what is said of a whole input.
use Rattle.std.specs.Prelude.{◌≡◌, ◌+◌, ◌<◌, ◌≤◌, ◌↔◌, IsTrue, Bool, List, ℕ, length, Option, Result, Ok, Err}
use Rattle.std.specs.declared.alloc.AllocError.{AllocError}
use Rattle.std.specs.Io.KnownBytes.{Consumes, IsAtEnd}
use Rattle.cds_base.specs.Counts.{Rose}
use Rattle.cds_base.specs.SourceReading.{GrowsByReading}
use Rattle.cds_base.specs.declared.ends.Failed.{Failed}
use Rattle.cds_stamps.specs.declared.alloc_or.AllocOr.{AllocOr}
use Rattle.cds_stamps.specs.declared.alloc_or.AllocOr.TheVariants as stop
use Rattle.line_forms.specs.declared.endings.Status.{Status}
use Rattle.line_forms.specs.declared.endings.Status.TheVariants as ends
use Rattle.cell_replay.specs.declared.whole.Said.{Said}
use Rattle.cell_replay.specs.declared.whole.Said.TheVariants as said
use Rattle.cell_replay.specs.declared.whole.Whole.{Whole}
use Rattle.cell_replay.specs.declared.whole.Whole.TheVariants as whole
use Rattle.cell_replay.specs.WholeDemand.{WholeTask, Migrating, Auditing}
use Rattle.line_forms.specs.Endings.{Finishes, Side}

-- the form that is meant
abbrev pub task_of : Whole → WholeTask
task_of whole.Migrate = Migrating
task_of (whole.Audit dir) = Auditing dir

-- this is said of it
abbrev pub IsSaid : Said → Result (List ℕ) (List ℕ) → Type 0
IsSaid (said.Text text) r = r ≡ Ok text.items
IsSaid (said.Fault text) r = r ≡ Err text.items

-- a text goes out and the run ends so; or that of a fault does; or there was no memory, and nothing
-- went out
abbrev pub SaysEnd : Result Said AllocError → (sink sink' : Side) → Status → Type 0
SaysEnd (Ok (said.Text text)) sink sink' result = Finishes sink sink' text.items ends.Ok result
SaysEnd (Ok (said.Fault text)) sink sink' result =
    Finishes sink sink' text.items ends.BadInput result
SaysEnd (Err e) sink sink' result = (result ≡ ends.OutOfMemory) × (sink' ≡ sink)

-- the octets held grew by what was read of a source: by so many octets, or by fewer and the input
-- ended
pub record IsPartRead (room : ℕ) (left left' : Option (List ℕ)) (held held' : List ℕ) (ended : Bool) : Type 0 where
  pub reads : GrowsByReading left left' held held'
  pub within : length held' ≤ length held + room
  pub short : IsTrue ended ↔ (length held' < length held + room)
  pub end : IsTrue ended → IsAtEnd left'

-- some octets were read of a source, and so many fewer than there may be, or fewer still
pub record IsRead (spare room : ℕ) (left left' : Option (List ℕ)) : Type 0 where
  pub read : List ℕ
  pub taken : Consumes left left' read
  pub few : length read + spare ≤ room

-- reading stops: memory ran out after at most so many octets, or the source failed before it gave
-- so many
abbrev pub StopsWithin : (room : ℕ) → (source source' : Side) → AllocOr Failed → Type 0
StopsWithin room source source' stop.OutOfMemory =
    IsRead 0 room source.octets source'.octets × (source'.faults ≡ source.faults)
StopsWithin room source source' (stop.Fault failed) =
    IsRead 1 room source.octets source'.octets × Rose source.faults source'.faults

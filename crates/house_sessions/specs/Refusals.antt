-- Why a call of a session is not done. Own.
use Rattle.std.specs.Prelude.{◌≡◌, ◌⊎◌, ℕ, Bool, nat_le, ◌==◌, ◌&&◌, if◌then◌else◌, List, length, Option, Some, None}
use Rattle.std.specs.List.{list_all}
use Rattle.cds_base.specs.LineFaults.{is_printable}
use Rattle.house_serving.specs.declared.faults.TheConstants.{MOST_LINE}
use Rattle.house_sessions.specs.declared.fault.SessionFault.{SessionFault}
use Rattle.house_sessions.specs.declared.fault.SessionFault.TheVariants as why
use Rattle.house_sessions.specs.declared.session.Stage.{Stage}
use Rattle.house_sessions.specs.declared.session.Stage.TheVariants as stage

-- records are read, and a session starts, only before it has started
abbrev pub why_not_first : Stage → Option SessionFault
why_not_first stage.Reading = None
why_not_first stage.Running = Some why.Started
why_not_first stage.Spent = Some why.Spent

-- every other call is done only after that, and while no record waits to be kept
abbrev pub why_not : Stage → (waits : Option (List ℕ)) → Option SessionFault
why_not stage.Reading waits = Some why.NotStarted
why_not stage.Running (Some body) = Some why.NotKept
why_not stage.Running None = None
why_not stage.Spent waits = Some why.Spent

-- octets are a line that a house takes: printable, and not too many
abbrev pub is_line : List ℕ → Bool
is_line octets = nat_le (length octets) MOST_LINE && list_all is_printable octets

-- octets are the next line after so many, of which there are at most 4,294,967,295
abbrev pub why_no_next : (number : ℕ) → (line : List ℕ) → Option SessionFault
why_no_next number line =
    if is_line line then (if number == 4294967295 then Some why.Spent else None)
    else Some why.BadLine

-- the first of two reasons
abbrev pub first_reason : Option SessionFault → Option SessionFault → Option SessionFault
first_reason (Some fault) later = Some fault
first_reason None later = later

-- a line is taken only while no record waits to be kept
abbrev pub why_no_line : Stage → (waits : Option (List ℕ)) → (number : ℕ) → (line : List ℕ)
    → Option SessionFault
why_no_line stage waits number line =
    first_reason (why_not stage waits) (why_no_next number line)

-- after this fault a session is spent
abbrev pub IsSpending : SessionFault → Type 0
IsSpending fault = (fault ≡ why.NoRecord) ⊎ (fault ≡ why.OutOfMemory)

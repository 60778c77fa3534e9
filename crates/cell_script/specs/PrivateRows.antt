-- Words of private functions alone: the commands family by family, as the functions that read them
-- hand a line on.
use Rattle.std.specs.Prelude.{◌≡◌, ℕ, List, take, drop, map, None, Some, Option, Ok, Err, Result}
use Rattle.cds_stamps.specs.declared.alloc_or.AllocOr.{AllocOr}
use Rattle.cds_stamps.specs.declared.alloc_or.AllocOr.TheVariants.{Fault, OutOfMemory}
use Rattle.cell_script.specs.declared.command.ScriptLine.{ScriptLine}
use Rattle.cell_script.specs.declared.fault.ParseFault.{ParseFault}
use Rattle.cell_script.specs.declared.fault.ParseFault.TheVariants.{UnknownCommand}
use Rattle.cell_script.specs.WordForms.{Words}
use Rattle.cell_script.specs.CommandRows.{Row, said_among, early_among, no_command, rows, updates, update_words}

-- what a line says, or its fault, and the fault of it that shows before a word after the first one
-- is read
pub record Saying : Type 0 where
  pub said : Result ScriptLine ParseFault
  pub early : Option ParseFault

-- a reader answers what the line says, or its fault; or out of memory, but not where a fault shows
-- early
abbrev pub Says : Result ScriptLine (AllocOr ParseFault) → Saying → Type 0
Says (Ok line) saying = saying.said ≡ Ok line
Says (Err (Fault fault)) saying = saying.said ≡ Err fault
Says (Err OutOfMemory) saying = saying.early ≡ None

-- a line by the row of its first word, or by the other saying where no row has it
abbrev pub saying_among : List Row → Saying → List ℕ → Words → Saying
saying_among rows other word s = record { said = said_among rows other.said word s; early = early_among rows other.early word s }

-- a line of no command
abbrev pub unknown : Saying
unknown = record { said = no_command; early = Some (UnknownCommand 1) }

-- so many rows of the table, after so many others
abbrev pub rows_at : (before count : ℕ) → List Row
rows_at before count = take count (drop before rows)

-- a line of no family before: of a command of the name service, or of no command
unfoldable pub by_service_rows : List ℕ → Words → Saying
by_service_rows = saying_among (rows_at 23 7) unknown

-- such a line, or that of a question
unfoldable pub by_question_rows : List ℕ → Words → Saying
by_question_rows word s = saying_among (rows_at 18 5) (by_service_rows word s) word s

-- one of these, or that of an event
unfoldable pub befallen : List ℕ → Words → Saying
befallen word s = saying_among (rows_at 14 4) (by_question_rows word s) word s

-- one of these, or that of a command about all replicas of a directory
unfoldable pub by_replica_rows : List ℕ → Words → Saying
by_replica_rows word s = saying_among (rows_at 12 2) (befallen word s) word s

-- one of these, or that of an update of an entry
unfoldable pub by_update_rows : List ℕ → Words → Saying
by_update_rows word s = saying_among (map updates update_words) (by_replica_rows word s) word s

-- one of these, or that of a command that makes houses or directories: so any line
unfoldable pub by_all_rows : List ℕ → Words → Saying
by_all_rows word s = saying_among (rows_at 0 5) (by_update_rows word s) word s

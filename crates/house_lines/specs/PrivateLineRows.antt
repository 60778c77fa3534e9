-- Words of private functions alone: the commands family by family, as the functions that read them
-- hand a line on.
use Rattle.std.specs.Prelude.{◌≡◌, ℕ, if◌then◌else◌, List, None, Some, Option, Ok, Err, Result}
use Rattle.std.specs.Result.{result_err}
use Rattle.cds_stamps.specs.declared.alloc_or.AllocOr.{AllocOr}
use Rattle.cds_stamps.specs.declared.alloc_or.AllocOr.TheVariants.{Fault, OutOfMemory}
use Rattle.cell_script.specs.declared.fault.ParseFault.{ParseFault}
use Rattle.cell_script.specs.declared.fault.ParseFault.TheVariants.{UnknownCommand}
use Rattle.cell_script.specs.WordForms.{Words}
use Rattle.cell_script.specs.CommandRows.{RowOf, said_among, early_among, no_command}
use Rattle.house_lines.specs.declared.line.HouseLine.{HouseLine}
use Rattle.house_lines.specs.LineRows.{making_rows, update_rows, message_rows, question_rows, epoch_count, epoch_said, is_epoch}

-- what a line says, or its fault, and the fault of it that shows before a word after the first one
-- is read
pub record Saying : Type 0 where
  pub said : Result HouseLine ParseFault
  pub early : Option ParseFault

-- a reader answers what the line says, or its fault; or that memory ran out, but not if a fault
-- shows early
abbrev pub Says : Result HouseLine (AllocOr ParseFault) → Saying → Type 0
Says (Ok line) saying = saying.said ≡ Ok line
Says (Err (Fault fault)) saying = saying.said ≡ Err fault
Says (Err OutOfMemory) saying = saying.early ≡ None

-- a line by the row of its first word, or by the other saying if no row has it
abbrev pub saying_among : List (RowOf HouseLine) → Saying → List ℕ → Words → Saying
saying_among rows other word s = record { said = said_among rows other.said word s; early = early_among rows other.early word s }

-- a line of no command
abbrev pub unknown : Saying
unknown = record { said = no_command; early = Some (UnknownCommand 1) }

-- a question, or a line of no command
unfoldable pub by_question_rows : List ℕ → Words → Saying
by_question_rows = saying_among question_rows unknown

-- one of these, or a skulk or octets of messages
unfoldable pub by_message_rows : List ℕ → Words → Saying
by_message_rows word s = saying_among message_rows (by_question_rows word s) word s

-- one of these, or an update of an entry
unfoldable pub by_update_rows : List ℕ → Words → Saying
by_update_rows word s = saying_among update_rows (by_message_rows word s) word s

-- one of these, or what makes the house or directories
unfoldable pub by_making_rows : List ℕ → Words → Saying
by_making_rows word s = saying_among making_rows (by_update_rows word s) word s

-- an epoch
unfoldable pub by_epoch : Words → Saying
by_epoch s = record { said = epoch_said s; early = result_err (epoch_count s) }

-- any line
unfoldable pub saying_by : List ℕ → Words → Saying
saying_by word s = if is_epoch word then by_epoch s else by_making_rows word s

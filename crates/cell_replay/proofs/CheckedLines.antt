-- What `check` makes of a line hangs on whether it says a command.
use Rattle.std.proofs.Common.{◌≡◌, ℕ, ◌+◌, Bool, if◌then◌else◌, refl, []}
use Rattle.std.specs.Prelude.{Option, Some, None, Result, Ok, Err}
use Rattle.cell_script.specs.declared.command.ScriptLine.{ScriptLine}
use Rattle.cell_script.specs.declared.fault.ParseFault.{ParseFault}
use Rattle.script_answers.specs.Texts.{parse_fault_text}
use Rattle.reply_buffer.specs.Responses.{ResponseOf, GoesOn, Stops}
use Rattle.cell_replay.specs.Checking.{Counts, counts, line_check}
use Rattle.cell_replay.specs.PrivateChecks.{has_command}

-- a line is counted, and a command where it says one
abbrev pub checked_line : ℕ → (commands : ℕ) → Result Bool ParseFault → ResponseOf Counts
checked_line number commands (Ok has_command) = GoesOn [] (counts number (if has_command then commands + 1 else commands))
checked_line number commands (Err fault) = Stops (parse_fault_text number fault)

pub checked_whether : (number commands : ℕ) (said : Result (Option ScriptLine) ParseFault)
    → line_check number commands said ≡ checked_line number commands (has_command said)
checked_whether number commands (Ok None) = refl
checked_whether number commands (Ok (Some line)) = refl
checked_whether number commands (Err fault) = refl

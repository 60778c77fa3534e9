-- Words of private contracts: what `check` has counted.
use Rattle.std.specs.Prelude.{◌≡◌, Bool, Option, Result, Ok, Err, is_some}
use Rattle.cell_script.specs.declared.command.ScriptLine.{ScriptLine}
use Rattle.cell_script.specs.declared.fault.ParseFault.{ParseFault}
use Rattle.cell_replay.specs.Checking.{Counts}
use Rattle.cell_replay.specs.declared.check.Tally.{Tally}

-- these are the counts
abbrev pub CountsTo : Tally → Counts → Type 0
CountsTo t s = (t.lines ≡ s.lines) × (t.commands ≡ s.commands)

-- whether a line says a command, or its fault
abbrev pub has_command : Result (Option ScriptLine) ParseFault → Result Bool ParseFault
has_command (Ok said) = Ok (is_some said)
has_command (Err fault) = Err fault

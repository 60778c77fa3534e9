-- A script that is replayed, and answered nothing.
use Rattle.std.specs.Prelude.{[]}
use Rattle.cell_model.specs.Cells.{Cell}
use Rattle.cell_script.specs.CommandRows.{said_in}
use Rattle.cell_script.specs.declared.command.ScriptLine.{ScriptLine}
use Rattle.line_forms.specs.Dialogues.{Dialogue}
use Rattle.script_replay.specs.Replies.{cell_after}

-- a cell replays what each line says, as `run` does, and no line is answered
abbrev pub running_quietly : Dialogue Cell ScriptLine
running_quietly = record { says = said_in; text = λ number g l. []; after = λ number g l. cell_after g l }

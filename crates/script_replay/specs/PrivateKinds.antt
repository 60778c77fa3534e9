-- Words of private contracts: what is counted of a command and its answer.
use Rattle.std.specs.Prelude.{Bool, true, false}
use Rattle.script_answers.specs.declared.answer.Answer.{Answer}
use Rattle.script_answers.specs.declared.answer.Answer.TheVariants as answer
use Rattle.cell_script.specs.declared.command.ScriptLine.{ScriptLine}
use Rattle.cell_script.specs.declared.command.ScriptLine.TheVariants as line
use Rattle.script_replay.specs.Loading.{is_change, is_delivery}

-- what a line is: a change, a delivery, or neither
abbrev pub line_changes : ScriptLine → Bool
line_changes (line.Cell c) = is_change c
line_changes (line.Question q) = false

-- whether a line is a command that delivers a message
abbrev pub line_delivers : ScriptLine → Bool
line_delivers (line.Cell c) = is_delivery c
line_delivers (line.Question q) = false

-- what an answer of the script is
abbrev pub refuses : Answer → Bool
refuses (answer.Refused r) = true
refuses _ = false

-- whether an answer of the script tells that a skulk is complete
abbrev pub is_complete : Answer → Bool
is_complete (answer.Complete t ns) = true
is_complete _ = false

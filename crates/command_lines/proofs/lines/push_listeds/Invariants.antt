use Rattle.std.proofs.Common.{◌≡◌, ◌++◌, drop, map}
use Rattle.script_answers.specs.Texts.{spaced}
use Rattle.command_lines.specs.CommandTexts.{listed_word}
use Rattle.command_lines.proofs.lines.push_listeds.Given as goal

abbrev pub invariant-loop-listed : goal.invariant-loop-listed
invariant-loop-listed l =
    l.line.items ++ spaced (map listed_word (drop l.listed-index l.list)) ≡ l.fn.line.items ++ spaced (map listed_word l.list)

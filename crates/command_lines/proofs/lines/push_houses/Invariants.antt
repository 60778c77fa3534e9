use Rattle.std.proofs.Common.{◌≡◌, ◌++◌, drop, map}
use Rattle.script_answers.specs.Texts.{spaced}
use Rattle.command_lines.specs.CommandTexts.{house_word}
use Rattle.command_lines.proofs.lines.push_houses.Given as goal

abbrev pub invariant-loop-house : goal.invariant-loop-house
invariant-loop-house l =
    l.line.items ++ spaced (map house_word (drop l.house-index l.list)) ≡ l.fn.line.items ++ spaced (map house_word l.list)

use Rattle.std.proofs.Common.{◌≡◌, ◌++◌, length}
use Rattle.script_answers.specs.Texts.{spaced}
use Rattle.entry_lines.proofs.lines.push_rest.Given as goal

abbrev pub invariant-words : goal.invariant-words
invariant-words l = l.line.items ++ spaced l.words.rest ≡ l.fn.line.items ++ spaced l.fn.words.rest

abbrev pub decreases-words : goal.decreases-words
decreases-words l = length l.words.rest

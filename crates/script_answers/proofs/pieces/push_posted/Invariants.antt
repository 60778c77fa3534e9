use Rattle.std.proofs.Common.{◌≡◌, ◌++◌, take}
use Rattle.std.specs.Prelude.{codes}
use Rattle.script_answers.specs.Texts.{spaced_numbers}
use Rattle.script_answers.proofs.pieces.push_posted.Given as goal

abbrev pub invariant-loop-serial : goal.invariant-loop-serial
invariant-loop-serial l = l.line.items ≡ l.fn.line.items ++ (codes " posted" ++ spaced_numbers (take l.serial-index l.serials))

use Rattle.std.proofs.Common.{◌≡◌, drop}
use Rattle.cell_script.specs.Words.{number_of}
use Rattle.cell_script.proofs.Numbers.{number_on}
use Rattle.cell_script.proofs.word.number.Given as goal

abbrev pub invariant-loop-b : goal.invariant-loop-b
invariant-loop-b l = number_on l.value (drop l.b-index l.word) ≡ number_of l.word

use Rattle.std.proofs.Common.{◌≡◌, drop}
use Rattle.cell_script.specs.Words.{words_of}
use Rattle.cell_script.proofs.words.skip_spaces.Given as goal

abbrev pub invariant-loop-i : goal.invariant-loop-i
invariant-loop-i l = words_of (drop l.i l.octets) ≡ words_of l.octets

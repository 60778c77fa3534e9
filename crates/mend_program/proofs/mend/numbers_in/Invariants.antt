use Rattle.std.proofs.Common.{◌≡◌, ◌++◌, drop, map, string_bytes}
use Rattle.house_directory.specs.HouseMessages.{numbers_of}
use Rattle.mend_program.specs.ProgramWords.{numbers_in}
use Rattle.mend_program.proofs.mend.numbers_in.Given as goal

abbrev pub invariant-loop-word : goal.invariant-loop-word
invariant-loop-word l =
    numbers_of l.houses.items ++ numbers_in (map string_bytes (drop l.word-index l.words)) ≡ numbers_in (map string_bytes l.words)

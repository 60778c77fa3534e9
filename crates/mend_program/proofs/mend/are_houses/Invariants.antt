use Rattle.std.proofs.Common.{◌≡◌, drop, map, string_bytes}
use Rattle.std.specs.List.{list_all}
use Rattle.mend_program.specs.ProgramWords.{is_house}
use Rattle.mend_program.proofs.mend.are_houses.Given as goal

abbrev pub invariant-loop-word : goal.invariant-loop-word
invariant-loop-word l = list_all is_house (map string_bytes (drop l.word-index l.words)) ≡ list_all is_house (map string_bytes l.words)

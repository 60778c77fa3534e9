use Rattle.std.proofs.Common.{◌≡◌, ◌++◌, drop, map, string_bytes}
use Rattle.std.specs.Option.{option_map}
use Rattle.clerk_program.specs.ProgramWords.{houses_said}
use Rattle.clerk_program.proofs.words.houses_in.Given as goal

abbrev pub invariant-loop-word : goal.invariant-loop-word
invariant-loop-word l =
    houses_said (map string_bytes l.words) ≡ option_map (λ hs. l.houses.items ++ hs) (houses_said (map string_bytes (drop l.word-index l.words)))

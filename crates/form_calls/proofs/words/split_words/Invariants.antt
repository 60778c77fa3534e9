use Rattle.std.proofs.Common.{◌≡◌, ◌++◌, map, string_bytes, length}
use Rattle.cell_script.specs.Words.{words_of}
use Rattle.form_calls.proofs.words.split_words.Given as goal

abbrev pub invariant-words : goal.invariant-words
invariant-words l = map string_bytes l.words.items ++ l.rest.rest ≡ words_of l.octets

abbrev pub decreases-words : goal.decreases-words
decreases-words l = length l.rest.rest

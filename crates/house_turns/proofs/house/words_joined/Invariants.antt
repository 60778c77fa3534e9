use Rattle.std.proofs.Common.{◌≡◌, ◌++◌, length}
use Rattle.cell_script.specs.Words.{words_of}
use Rattle.house_turns.specs.HouseReplies.{with_spaces}
use Rattle.house_turns.proofs.Joining.{spaced}
use Rattle.house_turns.proofs.house.words_joined.Given as goal

abbrev pub invariant-words : goal.invariant-words
invariant-words l = l.text.items ++ spaced l.words.rest ≡ with_spaces (words_of l.line)

abbrev pub decreases-words : goal.decreases-words
decreases-words l = length l.words.rest

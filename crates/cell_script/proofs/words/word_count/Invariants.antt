use Rattle.std.proofs.Common.{◌≡◌, ◌+◌, ◌≤◌, length}
use Rattle.cell_script.specs.Words.{words_of}
use Rattle.cell_script.specs.PrivateCounts.{words_behind}
use Rattle.cell_script.proofs.words.word_count.Given as goal

abbrev pub invariant-strides : goal.invariant-strides
invariant-strides l = record {
  counted : l.count + words_behind l.in_word l.rest ≡ length (words_of l.octets);
  within : l.count + length l.rest ≤ length l.octets;
}

abbrev pub decreases-strides : goal.decreases-strides
decreases-strides l = length l.rest

use Rattle.std.proofs.Common.{◌≡◌, ◌+◌, ◌≤◌, ◌++◌, ℕ, List, drop}
use Rattle.cell_script.specs.PrivateCounts.{words_behind}
use Rattle.cell_script.proofs.words.words_begun.Given as goal

abbrev pub invariant-loop-octet : goal.invariant-loop-octet
invariant-loop-octet l = record {
  begun : (rest : List ℕ) → l.count + words_behind l.goes_on (drop l.octet-index l.octets ++ rest) ≡ words_behind l.in_word (l.octets ++ rest);
  few : l.count ≤ l.octet-index;
}

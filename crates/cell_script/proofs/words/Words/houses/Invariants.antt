use Rattle.std.proofs.Common.{◌≡◌, ◌+◌, length}
use Rattle.cell_script.specs.WordForms.{each_word}
use Rattle.cell_script.specs.Words.{house_of}
use Rattle.cell_script.proofs.Reading.{behind}
use Rattle.cell_script.proofs.words.Words.houses.Given as goal

abbrev pub invariant-loop-word : goal.invariant-loop-word
invariant-loop-word l = record {
  said : each_word house_of l.fn.self.read l.fn.self.rest ≡ behind l.houses (each_word house_of l.self.read l.self.rest);
  read : l.self.read + length l.self.rest ≡ l.fn.self.read + length l.fn.self.rest;
}

abbrev pub decreases-loop-word : goal.decreases-loop-word
decreases-loop-word l = length l.self.rest

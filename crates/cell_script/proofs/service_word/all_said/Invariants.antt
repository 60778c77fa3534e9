use Rattle.std.proofs.Common.{◌≡◌, length}
use Rattle.cell_script.specs.NameService.{all_said, texts_of}
use Rattle.cell_script.proofs.ListedTexts.{behind, texts_left}
use Rattle.cell_script.proofs.service_word.all_said.Given as goal

abbrev pub invariant-loop-rest : goal.invariant-loop-rest
invariant-loop-rest g l = behind l.list.items (all_said g.T.Said.says (texts_left l.rest)) ≡ all_said g.T.Said.says (texts_of l.word)

abbrev pub decreases-loop-rest : goal.decreases-loop-rest
decreases-loop-rest g l = length (texts_left l.rest)

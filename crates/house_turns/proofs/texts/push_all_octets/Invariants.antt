use Rattle.std.proofs.Common.{◌≡◌, ◌++◌, length}
use Rattle.std.specs.Prelude.{codes, map}
use Rattle.script_answers.specs.Texts.{lines_text}
use Rattle.house_turns.specs.PostTexts.{octets_line, pieces_of}
use Rattle.house_turns.proofs.texts.push_all_octets.Given as goal

abbrev pub invariant-pieces : goal.invariant-pieces
invariant-pieces l =
    l.text.items ++ lines_text l.number (map (octets_line (codes "octets ")) (pieces_of 2000 l.rest))
    ≡ l.fn.text.items ++ lines_text l.number (map (octets_line (codes "octets ")) (pieces_of 2000 l.octets))

abbrev pub decreases-pieces : goal.decreases-pieces
decreases-pieces l = length l.rest

use Rattle.std.proofs.Common.{◌≡◌, ◌++◌, length}
use Rattle.script_answers.specs.Texts.{lines_text}
use Rattle.house_turns.specs.PostTexts.{piece_lines, pieces_of}
use Rattle.house_turns.proofs.texts.push_pieces.Given as goal

abbrev pub invariant-pieces : goal.invariant-pieces
invariant-pieces l =
    l.text.items ++ lines_text l.number (piece_lines l.to.0 (pieces_of 2000 l.rest))
    ≡ l.fn.text.items ++ lines_text l.number (piece_lines l.to.0 (pieces_of 2000 l.octets))

abbrev pub decreases-pieces : goal.decreases-pieces
decreases-pieces l = length l.rest

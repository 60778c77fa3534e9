use Rattle.std.proofs.Common.{◌≡◌, length}
use Rattle.std.specs.Prelude.{decimal}
use Rattle.hex.specs.Hex.{encode_lower}
use Rattle.cell_runs.specs.Entries.{Post}
use Rattle.house_turns.proofs.SaidAgain.{PiecesLeft}
use Rattle.house_turns.proofs.again.push_pieces.Given as goal

abbrev pub invariant-pieces : goal.invariant-pieces
invariant-pieces l = (p : Post) → l.to ≡ decimal p.to → l.digits ≡ encode_lower p.octets → PiecesLeft p l.rest l.text.items l.fn.text.items

abbrev pub decreases-pieces : goal.decreases-pieces
decreases-pieces l = length l.rest

use Rattle.std.proofs.Common.{refl}
use Rattle.house_turns.proofs.SaidAgain.{on_ok, piece_written, pieces_written}
use Rattle.house_turns.proofs.again.push_pieces.Goals as goal

pub pieces-init : goal.pieces-init
pieces-init c = λ p to is. record { octets = p.octets; digits_are = is; text_is = refl }

pub pieces-preserved : goal.pieces-preserved
pieces-preserved c = λ p to is.
    piece_written p c.args.to.now c.pieces.rest.now c.pieces.text.items c.args.text.now.items c.split_at.result.0.now c.split_at.result.1.now
    c.push_piece.new.text.items (c.pieces.invariant p to is) to c.pieces-test.true c.split_at.ensures.front c.split_at.ensures.back
    c.in_ok-push_piece.ensures

pub returns : goal.returns
returns c = λ p to is.
    on_ok c.push_piece-2.result
    (pieces_written p c.args.to.now c.pieces.rest.now c.pieces.text.items c.args.text.now.items c.push_piece-2.new.text.items
    (c.pieces.invariant p to is) to c.pieces-test.false)
    c.push_piece-2.ensures

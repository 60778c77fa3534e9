use Rattle.std.proofs.Common.{◌∷◌, [], ℕ, List, drop, sym, ◌∙◌, ap, append-nil}
use Rattle.std.specs.Prelude.{codes}
use Rattle.house_turns.specs.PostTexts.{piece_lines, pieces_of, post_line}
use Rattle.house_turns.proofs.Pieces.{last_lines, more_lines, written_more}
use Rattle.house_turns.proofs.texts.push_pieces.Goals as goal

pub pieces-preserved : goal.pieces-preserved
pieces-preserved c =
    let to : ℕ = c.args.to.0 in
    let rest : List ℕ = c.pieces.rest.now in
    written_more c.args.number c.pieces.text.items c.push_post_line.new.text.items _ _ _ (piece_lines to (pieces_of 2000 rest))
    (more_lines to rest c.pieces-test.true
    ∙ ap (λ (p : List ℕ). post_line (codes "more ") to p ∷ piece_lines to (pieces_of 2000 (drop 2000 rest))) (sym c.split_at.ensures.front)
    ∙ ap (λ (r : List ℕ). post_line (codes "more ") to c.split_at.result.0.now ∷ piece_lines to (pieces_of 2000 r)) (sym c.split_at.ensures.back))
    c.in_ok-push_post_line.ensures c.pieces.invariant

pub returns : goal.returns
returns c =
    let to : ℕ = c.args.to.0 in
    let rest : List ℕ = c.pieces.rest.now in
    sym (append-nil c.push_post_line-2.new.text.items)
    ∙ written_more c.args.number c.pieces.text.items c.push_post_line-2.new.text.items _ (post_line (codes "post ") to rest) []
    (piece_lines to (pieces_of 2000 rest)) (last_lines to rest c.pieces-test.false) c.in_ok-push_post_line-2.ensures c.pieces.invariant

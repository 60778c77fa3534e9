use Rattle.std.proofs.Common.{◌∷◌, ℕ, List, length, drop, sym, ◌∙◌, ap, arith}
use Rattle.std.specs.Prelude.{codes, map}
use Rattle.house_turns.specs.PostTexts.{end_line, octets_line, pieces_of}
use Rattle.house_turns.proofs.Pieces.{pieces_next, written_last, written_more}
use Rattle.house_turns.proofs.texts.push_all_octets.Goals as goal

pub pieces-preserved : goal.pieces-preserved
pieces-preserved c =
    let f : List ℕ → List ℕ = octets_line (codes "octets ") in
    let rest : List ℕ = c.pieces.rest.now in
    let many = c.pieces-test.true in
    written_more c.args.number c.pieces.text.items c.push_octets.new.text.items _ _ _ (map f (pieces_of 2000 rest))
    (ap (map f) (pieces_next rest (omega (arith, many)))
    ∙ ap (λ (p : List ℕ). f p ∷ map f (pieces_of 2000 (drop 2000 rest))) (sym c.split_at.ensures.front)
    ∙ ap (λ (r : List ℕ). f c.split_at.result.0.now ∷ map f (pieces_of 2000 r)) (sym c.split_at.ensures.back))
    c.in_ok-push_octets.ensures c.pieces.invariant

pub returns : goal.returns
returns c =
    let f : List ℕ → List ℕ = octets_line (codes "octets ") in
    written_last c.args.number c.args.text.now.items c.push_last_octets.new.text.items c.push_end.new.text.items
    (end_line (length c.args.octets.now)) (map f (pieces_of 2000 c.args.octets.now))
    (c.in_ok-push_last_octets.ensures ∙ c.pieces.invariant) c.in_ok-push_end.ensures

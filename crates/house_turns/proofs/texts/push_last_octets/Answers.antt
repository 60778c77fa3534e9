use Rattle.std.proofs.Common.{◌≡◌, ◌<◌, ◌++◌, ℕ, List, length, sym, ◌∙◌, ap, arith, append-nil}
use Rattle.std.specs.Prelude.{codes, map}
use Rattle.script_answers.specs.Texts.{line_text, lines_text}
use Rattle.house_turns.specs.PostTexts.{octets_line}
use Rattle.house_turns.proofs.Pieces.{pieces_last, pieces_none}
use Rattle.house_turns.proofs.texts.push_last_octets.Goals as goal

pub returns-then-is_empty : goal.returns-then-is_empty
returns-then-is_empty c =
    let text : List ℕ = c.args.text.now.items in
    let none : length c.args.octets.now ≡ 0 = grind (arith, c.if-is_empty.ensures) in
    sym (append-nil text)
    ∙ ap (λ (ps : List (List ℕ)). text ++ lines_text c.args.number (map (octets_line (codes "octets ")) ps)) (sym (pieces_none c.args.octets.now none))

pub returns : goal.returns
returns c =
    let text : List ℕ = c.args.text.now.items in
    let octets : List ℕ = c.args.octets.now in
    let some : 0 < length octets = grind (arith, c.if-is_empty.ensures) in
    c.in_ok-push_octets.ensures
    ∙ ap (λ (r : List ℕ). text ++ r) (sym (append-nil (line_text c.args.number (octets_line (codes "octets ") octets))))
    ∙ ap (λ (ps : List (List ℕ)). text ++ lines_text c.args.number (map (octets_line (codes "octets ")) ps)) (sym (pieces_last octets some c.requires))

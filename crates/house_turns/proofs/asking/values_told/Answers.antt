use Rattle.std.proofs.Common.{[], ◌++◌, ℕ, List, length, ap, ◌∙◌}
use Rattle.std.specs.Prelude.{codes, map}
use Rattle.script_answers.specs.Texts.{lines_text}
use Rattle.house_turns.specs.PostTexts.{end_line, octets_line}
use Rattle.house_turns.proofs.Pieces.{written_last}
use Rattle.house_turns.proofs.asking.values_told.Goals as goal

pub returns : goal.returns
returns c =
    let values : List (List ℕ) = c.args.values.now in
    let lines : List (List ℕ) = map (octets_line (codes "value ")) values in
    written_last c.args.number [] c.push_values.new.text.items c.push_end.new.text.items (end_line (length values)) lines
    (c.in_ok-push_values.ensures ∙ ap (λ (t : List ℕ). t ++ lines_text c.args.number lines) c.new-text.ensures.items) c.in_ok-push_end.ensures

use Rattle.std.proofs.Common.{ℕ, List, ◌∷◌, ◌++◌, ap, ◌∙◌}
use Rattle.std.specs.Prelude.{decimal}
use Rattle.script_answers.specs.Texts.{spaced_numbers}
use Rattle.cell_names.specs.ChildPointers.{pointer_in}
use Rattle.house_turns.proofs.Shows.{houses_spaced, pointer_written}
use Rattle.house_turns.proofs.showing.push_places.Goals as goal

pub returns : goal.returns
returns c =
    let t : List ℕ = c.push_spaced.new.text.items in
    let t' : List ℕ = c.push_spaced-2.new.text.items in
    pointer_written (pointer_in c.args.pointer.now) c.args.text.now.items t t' c.push_houses.new.text.items
    (c.in_ok-push_spaced.ensures ∙ ap (λ (k : ℕ). c.args.text.now.items ++ 32 ∷ decimal k) c.from.ensures)
    (c.in_ok-push_spaced-2.ensures ∙ ap (λ (k : ℕ). t ++ 32 ∷ decimal k) (c.from-2.ensures ∙ c.master.ensures))
    (c.in_ok-push_houses.ensures
    ∙ ap (λ (ns : List ℕ). t' ++ ns) (houses_spaced c.others.result.now ∙ ap spaced_numbers c.others.ensures.value))

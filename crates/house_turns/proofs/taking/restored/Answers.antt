use Rattle.std.proofs.Common.{◌≡◌, ℕ, ◌++◌, ◌∷◌, [], List, ap, subst, ◌∙◌}
use Rattle.std.specs.Prelude.{IfOk, codes}
use Rattle.script_answers.specs.Texts.{stamp_text}
use Rattle.house_turns.specs.LineOutcomes as outcomes
use Rattle.house_turns.specs.PrivateTurns.{Says}
use Rattle.house_turns.proofs.taking.restored.Goals as goal

pub returns : goal.returns
returns c =
    let words : c.deref.result.now ≡ codes "refused Restored " ++ stamp_text c.args.stamp.now =
    c.deref.ensures.value ∙ c.in_ok-push_stamp.ensures.ok ∙ ap (λ (t : List ℕ). t ++ stamp_text c.args.stamp.now) c.in_ok-words.ensures.items in
    subst (λ (w : List ℕ). IfOk c.told_words.result (λ s. Says c.args.number s (outcomes.Tells (w ∷ [])))) words c.told_words.ensures

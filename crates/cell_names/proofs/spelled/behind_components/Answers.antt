use Rattle.std.proofs.Common.{◌≢◌, ℕ, List, ◌∷◌, ◌++◌, subst}
use Rattle.cell_names.specs.FullNames.{slash}
use Rattle.cell_names.proofs.SpelledWalks.{not_followed}
use Rattle.cell_names.proofs.spelled.behind_components.Goals as goal

pub returns-in-None : goal.returns-in-None
returns-in-None c =
    let rest = c.loop-component.rest.now in
    let none = subst (λ (o : List ℕ). (behind : List ℕ) → rest ≢ slash ∷ (o ++ behind)) c.octets.ensures.value c.in-None.ensures in
    let l = c.loop-component in
    let found = c.component-item in
    not_followed c.args.octets.now rest c.args.components.now l.component-index found.result c.loop-component-test.true found.is l.invariant none

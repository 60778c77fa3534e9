use Rattle.std.proofs.Common.{[], ◌∷◌, Some}
use Rattle.std.proofs.lemmas.Bool.Decides.{Decides-eqb}
use Rattle.std.proofs.lemmas.Slice.Eq.{strip_prefix_is}
use Rattle.cell_names.specs.FullNames.{slash}
use Rattle.cell_names.proofs.SpelledWalks.{behind_slash}
use Rattle.cell_names.proofs.spelled.behind_component.Goals as goal

pub returns : goal.returns
returns c =
    let behind = c.in_ok-strip_prefix.field-0 in
    behind_slash c.args.octets.now behind.now c.args.component.now c.strip_prefix-2.result
    (strip_prefix_is Decides-eqb c.args.octets.now (slash ∷ []) (Some behind) c.in_ok-strip_prefix.ensures.cases)
    (strip_prefix_is Decides-eqb behind.now c.args.component.now c.strip_prefix-2.result c.strip_prefix-2.ensures.cases)

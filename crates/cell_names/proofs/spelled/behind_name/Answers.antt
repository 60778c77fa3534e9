use Rattle.std.proofs.Common.{Some}
use Rattle.std.proofs.lemmas.Bool.Decides.{Decides-eqb}
use Rattle.std.proofs.lemmas.Slice.Eq.{strip_prefix_is}
use Rattle.cell_names.specs.FullNames.{cell_root}
use Rattle.cell_names.proofs.SpelledWalks.{behind_root}
use Rattle.cell_names.proofs.spelled.behind_name.Goals as goal

pub returns : goal.returns
returns c =
    let behind = c.in_ok-strip_prefix.field-0 in
    behind_root c.args.octets.now behind.now c.args.components.now c.behind_components.result
    (strip_prefix_is Decides-eqb c.args.octets.now cell_root (Some behind) c.in_ok-strip_prefix.ensures.cases)
    c.behind_components.ensures

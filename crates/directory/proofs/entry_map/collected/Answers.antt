use Rattle.std.proofs.Common.{subst, ap, ◌∙◌}
use Rattle.std.specs.BTreeMap as tree
use Rattle.std.specs.Vec.Iter.{into_iter_items}
use Rattle.std.proofs.lemmas.Result.{IfOk-weaker}
use Rattle.cds_stamps.specs.Octets.{octets_cmp}
use Rattle.directory.proofs.entry_map.collected.Goals as goal

pub returns : goal.returns
returns c =
    IfOk-weaker c.collect.result _ (tree.IsFromIterResult octets_cmp c.args.pairs.items) (λ n made.
    let run = made tt in
    subst (λ xs. tree.IsFromIterResult octets_cmp xs n)
    ((c.into_iter.ensures.runs run.0 run.0.seen).4 run.2 ∙ ap into_iter_items run.1 ∙ c.into_iter.ensures.rest) run.3) c.collect.ensures.runs

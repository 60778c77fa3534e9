use Rattle.std.proofs.Common.{ℕ, List, ◌++◌, sym, ap, ◌∙◌}
use Rattle.std.specs.Option.{option_to_list}
use Rattle.cds_clerk.specs.Unreached.{unreached_at}
use Rattle.cds_clerk.proofs.UnreachedLaws.{made_more}
use Rattle.cds_clerk.proofs.reaching.unreached_among.Goals as goal

pub loop-name-preserved : goal.loop-name-preserved
loop-name-preserved c =
    let at = unreached_at c.args.heard.now in
    let name = c.name-item.result in
    c.in_ok-push_some.ensures
    ∙ ap (λ o. c.loop-name.dirs.items ++ option_to_list o) (sym c.in_ok-unreached_at.ensures)
    ∙ ap (λ (ns : List ℕ). ns ++ option_to_list (at name)) c.loop-name.invariant
    ∙ sym (made_more at c.args.names.now c.loop-name.name-index name c.loop-name-test.true c.name-item.is)

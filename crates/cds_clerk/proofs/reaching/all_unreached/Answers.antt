use Rattle.std.proofs.Common.{ℕ, List, ◌++◌, sym, ap, ◌∙◌}
use Rattle.cds_clerk.specs.Unreached.{unreached_from}
use Rattle.cds_clerk.proofs.UnreachedLaws.{lists_more}
use Rattle.cds_clerk.proofs.reaching.all_unreached.Goals as goal

pub unreached_from-requires : goal.unreached_from-requires
unreached_from-requires c =
    c.requires c.entry-item.result (c.loop-entry.entry-index, c.loop-entry-test.true, sym c.entry-item.is)

pub loop-entry-preserved : goal.loop-entry-preserved
loop-entry-preserved c =
    let from = unreached_from c.args.heard.now c.args.interface.now in
    let entry = c.entry-item.result in
    c.in_ok-append.ensures.items
    ∙ ap (λ (ns : List ℕ). c.loop-entry.dirs.items ++ ns) c.in_ok-more.ensures
    ∙ ap (λ (ns : List ℕ). ns ++ from entry) c.loop-entry.invariant
    ∙ sym (lists_more from c.args.entries.now c.loop-entry.entry-index entry c.loop-entry-test.true c.entry-item.is)

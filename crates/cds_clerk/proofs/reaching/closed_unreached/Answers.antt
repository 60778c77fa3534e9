use Rattle.std.proofs.Common.{◌∙◌}
use Rattle.resolver.proofs.PassLaws.{if_ok}
use Rattle.cds_clerk.proofs.UnreachedLaws.{are_unreached}
use Rattle.cds_clerk.proofs.reaching.closed_unreached.Goals as goal

pub all_unreached-requires : goal.all_unreached-requires
all_unreached-requires c = c.requires.closed.shown

pub returns : goal.returns
returns c =
    if_ok c.dirs_of.result (λ dirs are. are_unreached c.args.heard.now c.args.interface.now c.args.first.now c.args.entries.now c.requires.closed c.requires.reached
    c.in_ok-all.all.items c.in_order-numbers.result.items dirs.items c.in_ok-all.ensures c.in_order-numbers.ensures.ascending c.in_order-numbers.ensures.same (are ∙ c.deref.ensures.value)) c.dirs_of.ensures

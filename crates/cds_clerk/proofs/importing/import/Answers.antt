use Rattle.std.proofs.Common.{List, Vec, Global, sym, subst}
use Rattle.resolver.specs.declared.seen.Found.{Found}
use Rattle.cds_clerk.specs.Searches.{AreReached, IsClosed}
use Rattle.cds_clerk.proofs.SearchLaws.{if_closed}
use Rattle.cds_clerk.proofs.importing.import.Goals as goal

pub closed_import-requires : goal.closed_import-requires
closed_import-requires c =
    let P : Vec Found Global → Type 0 = λ entries. IsClosed c.args.heard.now c.args.wanted.interface c.args.name.now entries.items in
    (c.in-Closed.entries.items, if_closed c.in_ok-searched.searched c.in-Closed.entries P c.in-Closed.is c.in_ok-searched.ensures.closed)

pub closed_unreached-requires-clause-closed : goal.closed_unreached-requires-clause-closed
closed_unreached-requires-clause-closed c =
    let P : Vec Found Global → Type 0 = λ entries. IsClosed c.args.heard.now c.args.wanted.interface c.args.name.now entries.items in
    subst (λ (es : List Found). IsClosed c.args.heard.now c.args.wanted.interface c.args.name.now es) (sym c.deref.ensures.value)
    (if_closed c.in_ok-searched.searched c.in-Closed.entries P c.in-Closed.is c.in_ok-searched.ensures.closed)

pub closed_unreached-requires-clause-reached : goal.closed_unreached-requires-clause-reached
closed_unreached-requires-clause-reached c =
    let P : Vec Found Global → Type 0 = λ entries. AreReached c.args.heard.now c.args.wanted.interface c.args.name.now entries.items in
    subst (λ (es : List Found). AreReached c.args.heard.now c.args.wanted.interface c.args.name.now es) (sym c.deref.ensures.value)
    (if_closed c.in_ok-searched.searched c.in-Closed.entries P c.in-Closed.is c.in_ok-searched.ensures.reached)

use Rattle.std.proofs.Common.{◌≡◌, sym, subst, ◌∙◌}
use Rattle.std.specs.Prelude.{Some, IfSome}
use Rattle.cds_clerk.specs.Readings.{IsShown}
use Rattle.cds_clerk.specs.Searches.{object_in}
use Rattle.cds_clerk.proofs.SearchLaws.{on_ok_both, settles_new}
use Rattle.cds_clerk.proofs.searching.settle.Goals as goal

pub returns : goal.returns
returns c =
    let h = c.args.heard.now in
    let is : object_in c.args.end ≡ Some c.in-Some.found = sym c.object_in.ensures ∙ c.in-Some.is in
    let shown = subst (λ o. IfSome o (IsShown h)) is c.requires in
    on_ok_both c.enter.result (λ ns es. settles_new h c.args.interface.now c.args.end c.in-Some.found c.args.entries.now.items c.enter.new.entries.items
    c.args.names.now.items c.enter.new.names.items is shown ns es) c.enter.ensures.names c.enter.ensures.entries

use Rattle.std.proofs.Common.{◌≡◌, [], arith, drop, sym, ◌∙◌, ap, subst}
use Rattle.std.specs.Prelude.{max}
use Rattle.std.proofs.lemmas.List.{drop_all}
use Rattle.cds_cell.specs.ModelCells.{IsGreatestEpoch, greatest_epoch}
use Rattle.cds_cell.proofs.Counts.{epochs_counted}
use Rattle.cds_cell.proofs.cell.Cell.epochs.Goals as goal

pub returns-clause-model : goal.returns-clause-model
returns-clause-model c g s =
    let items = c.args.self.now.directories.items in
    let n = c.loop-listing.listing-index in
    let rest : drop n items ≡ [] =
    ap (λ ls. drop n ls) (sym c.deref-listing-items.ensures.value) ∙ drop_all n c.deref-listing-items.result.now c.loop-listing-test.false in
    let all : max c.loop-listing.greatest 0 ≡ greatest_epoch items =
    ap (λ ls. max c.loop-listing.greatest (greatest_epoch ls)) (sym rest) ∙ c.loop-listing.invariant in
    let is : greatest_epoch items ≡ c.loop-listing.greatest = omega (arith, all) in
    subst (IsGreatestEpoch g) is (epochs_counted c.args.self.now g s.stands)

use Rattle.std.proofs.Common.{◌∙◌, sym, rules, tests}
use Rattle.std.specs.Prelude.{◌∷◌, is_some, not}
use Rattle.std.proofs.lemmas.Iterator.{YieldsList-from_slice}
use Rattle.std.proofs.lemmas.Iterator.Search.{any_from_yields_List}
use Rattle.cds_stamps.specs.declared.numbers.HouseNo.{HouseNo}
use Rattle.house_directory.specs.HouseMessages.{numbers_of}
use Rattle.cds_cell.specs.ModelCells.{house_of}
use Rattle.cds_cell.proofs.Refusals.{missing_where}
use Rattle.cds_cell.proofs.Sorting.{any_of_numbers}
use Rattle.cds_cell.proofs.cell.Cell.lacks.Goals as goal

pub returns-else-not-has_house-clause-found : goal.returns-else-not-has_house-clause-found
returns-else-not-has_house-clause-found c =
    let hs = c.args.self.now.houses.items in
    let any = any_from_yields_List (λ (h : HouseNo). not (is_some (house_of hs h.0))) _ _ c.any.result c.any.ensures.ran
    (YieldsList-from_slice c.args.others.now (cc)) (λ x b q k. search (rules, tests)) in
    rw (sym c.if-not-has_house.ensures.found) (any ∙ any_of_numbers (λ x. not (is_some (house_of hs x))) c.args.others.now)

pub returns-else-not-has_house-clause-model : goal.returns-else-not-has_house-clause-model
returns-else-not-has_house-clause-model c g s =
    let hs = c.args.self.now.houses.items in
    let any = any_from_yields_List (λ (h : HouseNo). not (is_some (house_of hs h.0))) _ _ c.any.result c.any.ensures.ran
    (YieldsList-from_slice c.args.others.now (cc)) (λ x b q k. search (rules, tests)) in
    (rw (sym c.if-not-has_house.ensures.found) (any ∙ any_of_numbers (λ x. not (is_some (house_of hs x))) c.args.others.now))
    ∙ missing_where c.args.self.now g (c.args.first.0 ∷ numbers_of c.args.others.now) s

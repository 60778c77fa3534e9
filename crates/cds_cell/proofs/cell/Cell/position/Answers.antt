use Rattle.std.proofs.Common.{rules, tests, ◌∙◌}
use Rattle.std.proofs.lemmas.Iterator.{YieldsList-from_slice}
use Rattle.std.proofs.lemmas.Iterator.Adapters.{position_from-zero}
use Rattle.std.proofs.lemmas.Iterator.Search.{position_from_yields_List}
use Rattle.cds_cell.proofs.Houses.{is_house, found_from_front}
use Rattle.cds_cell.proofs.cell.Cell.position.Goals as goal

pub returns : goal.returns
returns c =
    found_from_front c.args.self.now.houses.items c.args.house.0 c.position.result
    (position_from_yields_List (is_house c.args.house.0) _ _ c.position.result c.position.ensures.ran
    (YieldsList-from_slice c.args.self.now.houses.items (cc))
    (λ x b q k. search (rules, tests))
    ∙ position_from-zero (is_house c.args.house.0) c.args.self.now.houses.items)

use Rattle.std.proofs.Common.{rules, tests, ◌∙◌, sym, ap}
use Rattle.std.specs.List.{list_any}
use Rattle.std.proofs.lemmas.Iterator.{YieldsList-from_slice}
use Rattle.std.proofs.lemmas.Iterator.Search.{any_from_yields_List}
use Rattle.cell_model.specs.Steps.{stands_twice}
use Rattle.cds_cell.proofs.Houses.{has_either, is_either, taken_alike}
use Rattle.cds_cell.proofs.cell.Cell.is_taken.Goals as goal

pub returns : goal.returns
returns c g s =
    let hs = c.args.self.now.houses.items in
    any_from_yields_List (has_either c.args.house.0 c.args.node) _ _ c.any.result c.any.ensures.ran (YieldsList-from_slice hs (cc))
    (λ x b q k. search (rules, tests))
    ∙ taken_alike g c.args.house.0 c.args.node hs (ap stands_twice (sym s.stands.made) ∙ s.stands.once) s.stands.houses
    ∙ ap (list_any (is_either g c.args.house.0 c.args.node)) (sym s.stands.made)

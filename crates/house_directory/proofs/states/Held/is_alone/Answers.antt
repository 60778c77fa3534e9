use Rattle.std.proofs.Common.{◌∙◌, rules, tests, ap}
use Rattle.std.specs.Prelude.{◌==◌}
use Rattle.std.specs.List.{list_all}
use Rattle.std.proofs.lemmas.Iterator.Search.{all_from_yields_List}
use Rattle.std.proofs.lemmas.Iterator.{YieldsList-from_slice}
use Rattle.cds_stamps.specs.declared.members.Member.{Member}
use Rattle.house_directory.proofs.states.Held.is_alone.Goals as goal

pub returns : goal.returns
returns c =
    all_from_yields_List (λ (m : Member). m.house.0 == c.args.house.0) _ _ c.all.result c.all.ensures.ran
    (YieldsList-from_slice c.list.result.now (cc)) (λ x b q k. search (rules, tests))
    ∙ ap (list_all (λ (m : Member). m.house.0 == c.args.house.0)) c.list.ensures.value

use Rattle.std.proofs.Common.{◌∙◌, rules, tests}
use Rattle.std.specs.Prelude.{◌==◌}
use Rattle.std.proofs.lemmas.Iterator.Search.{any_from_yields_List}
use Rattle.std.proofs.lemmas.Iterator.{YieldsList-from_slice}
use Rattle.cds_stamps.specs.declared.members.Member.{Member}
use Rattle.cds_explain.proofs.ComparingLemmas.{listed_any}
use Rattle.cds_explain.proofs.comparing.is_member.Goals as goal

pub returns : goal.returns
returns c =
    any_from_yields_List (λ (m : Member). m.house.0 == c.args.house.0) _ _ c.any.result c.any.ensures.ran
    (YieldsList-from_slice c.args.members.now (cc)) (λ x b q k. search (rules, tests))
    ∙ listed_any c.args.house.0 c.args.members.now

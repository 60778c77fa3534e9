use Rattle.std.proofs.Common.{◌∙◌}
use Rattle.resolver.proofs.PassLaws.{if_ok}
use Rattle.cds_clerk.specs.Plans.{asks_of}
use Rattle.cds_clerk.specs.Readings.{least_reader}
use Rattle.cds_clerk.proofs.PlanLaws.{plans_alike, same_plan}
use Rattle.cds_clerk.proofs.planning.plan_at.Goals as goal

pub returns-clause-asked : goal.returns-clause-asked
returns-clause-asked c =
    let h = c.args.heard.now in
    let p = c.args.plan.now in
    if_ok c.told.result
    (λ x its. same_plan x _ _ (λ a is r agrees. is ∙ plans_alike h r agrees p c.args.end.now c.requires.walked c.requires.shown) its)
    (c.told.ensures.asked (asks_of (least_reader h) p) c.asks.ensures)

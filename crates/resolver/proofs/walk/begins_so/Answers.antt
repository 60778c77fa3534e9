use Rattle.std.proofs.Common.{◌∙◌}
use Rattle.resolver.proofs.LinkLaws.{begins_so, begins_otherwise}
use Rattle.resolver.proofs.walk.begins_so.Goals as goal

pub returns-in-Some : goal.returns-in-Some
returns-in-Some c =
    c.eq.ensures
    ∙ begins_so c.args.all.now c.args.front.now c.args.rest.now c.in-Some.end.now c.in-Some.ensures.cases.0 c.in-Some.ensures.cases.1

pub returns-in-None : goal.returns-in-None
returns-in-None c = begins_otherwise c.args.all.now c.args.front.now c.args.rest.now c.in-None.ensures.cases

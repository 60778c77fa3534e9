use Rattle.std.proofs.Common.{arith}
use Rattle.resolver.proofs.walk.Walk.hear.Goals as goal

pub overflow_add-self : goal.overflow_add-self
overflow_add-self c = omega (arith, c.lead.ensures.few)

pub returns-in-Enter-clause-ahead : goal.returns-in-Enter-clause-ahead
returns-in-Enter-clause-ahead c = omega (arith, c.lead.ensures.few)

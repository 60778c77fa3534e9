use Rattle.image_audit.proofs.Outdone.{first_held, second_held}
use Rattle.image_audit.proofs.laws.replicas_that_agree_hold_each_fact.Goals as goal

pub returns-clause-first : goal.returns-clause-first
returns-clause-first c = first_held

pub returns-clause-second : goal.returns-clause-second
returns-clause-second c = second_held

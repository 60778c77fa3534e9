use Rattle.std.proofs.Common.{◌∙◌}
use Rattle.resolver.proofs.LinkLaws.{last_behind, last_in_front}
use Rattle.resolver.proofs.walk.last_of.Goals as goal

pub returns-in-Some : goal.returns-in-Some
returns-in-Some c = last_behind c.args.front.now c.args.rest.now _ c.in-Some.ensures.value

pub returns-in-None : goal.returns-in-None
returns-in-None c = c.last-in-None.ensures.value ∙ last_in_front c.args.front.now c.args.rest.now c.in-None.ensures.value

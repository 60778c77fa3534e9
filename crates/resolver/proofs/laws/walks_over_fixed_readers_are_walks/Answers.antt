use Rattle.resolver.proofs.ChangingLaws.{fixed_ending}
use Rattle.resolver.proofs.laws.walks_over_fixed_readers_are_walks.Goals as goal

pub returns : goal.returns
returns c = fixed_ending

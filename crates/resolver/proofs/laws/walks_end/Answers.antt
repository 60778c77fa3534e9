use Rattle.resolver.proofs.EndLaws.{ends_there}
use Rattle.resolver.proofs.laws.walks_end.Goals as goal

pub returns : goal.returns
returns c = ends_there

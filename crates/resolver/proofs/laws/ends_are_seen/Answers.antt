use Rattle.resolver.proofs.SeenLaws.{ends_seen}
use Rattle.resolver.proofs.laws.ends_are_seen.Goals as goal

pub returns : goal.returns
returns c = λ reader last name e ends. ends_seen ends

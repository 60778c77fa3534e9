use Rattle.resolver.specs.WalkEndProofs.{one_end}
use Rattle.resolver.proofs.laws.walks_have_one_end.Goals as goal

pub returns : goal.returns
returns c = λ reader last name e e' p q. one_end p q

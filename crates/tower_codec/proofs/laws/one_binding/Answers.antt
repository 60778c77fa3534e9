use Rattle.tower_codec.proofs.BindingLaws.{one_binding}
use Rattle.tower_codec.proofs.laws.one_binding.Goals as goal

pub returns : goal.returns
returns c = one_binding

use Rattle.tower_codec.proofs.BindingLaws.{printed}
use Rattle.tower_codec.proofs.laws.printed_bindings_read_back.Goals as goal

pub returns : goal.returns
returns c = printed

use Rattle.tower_codec.proofs.Numbers.{digits_within}
use Rattle.tower_codec.proofs.binding.number_in.Goals as goal

pub returns-in_default-clause-within : goal.returns-in_default-clause-within
returns-in_default-clause-within c = digits_within c.digits_in.result c.args.most c.args.text.now c.digits_in.ensures

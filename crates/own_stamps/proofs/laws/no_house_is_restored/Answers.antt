-- By what its parts carry.
use Rattle.own_stamps.proofs.Carried.{not_later}
use Rattle.own_stamps.proofs.laws.no_house_is_restored.Goals as goal

pub returns : goal.returns
returns c = not_later

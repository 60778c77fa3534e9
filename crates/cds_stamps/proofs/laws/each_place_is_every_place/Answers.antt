use Rattle.cds_stamps.proofs.Masks.{at_each_place, each_place-from}
use Rattle.cds_stamps.proofs.laws.each_place_is_every_place.Goals as goal

pub returns : goal.returns
returns c = λ n test. (at_each_place n test, each_place-from n test)

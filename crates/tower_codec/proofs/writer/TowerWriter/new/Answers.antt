use Rattle.std.proofs.Common.{[], refl, lit<}
use Rattle.tower_codec.specs.TowerReading.{known_floors}
use Rattle.tower_codec.proofs.writer.TowerWriter.new.Goals as goal

pub invariant_of-result : goal.invariant_of-result
unfolding known_floors
invariant_of-result c = rw c.in_ok-octets.ensures.items ([], (lit< tt, lit< tt, refl, refl), refl)

pub returns : goal.returns
unfolding known_floors
returns c = refl

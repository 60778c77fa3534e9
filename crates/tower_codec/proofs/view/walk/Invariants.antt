use Rattle.tower_codec.specs.TowerReading.{known_floors}
use Rattle.tower_codec.proofs.Known.{IsAhead}
use Rattle.tower_codec.proofs.view.walk.Given as goal

abbrev pub invariant-loop : goal.invariant-loop
invariant-loop l = IsAhead l.count l.counter l.rest (known_floors l.count l.octets)

use Rattle.std.proofs.Common.{◌≡◌, ◌-◌, ◌≤◌, length}
use Rattle.tower_codec.specs.TowerReading.{after_floors}
use Rattle.tower_codec.proofs.view.skip_floors.Given as goal

abbrev pub invariant-loop : goal.invariant-loop
invariant-loop l = record {
  shorter : length l.rest ≤ length l.octets;
  same : after_floors l.past (l.count - l.counter) l.rest ≡ after_floors l.past l.count l.octets;
}

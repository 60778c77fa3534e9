use Rattle.std.proofs.Common.{◌≡◌, drop}
use Rattle.cell_model.specs.Sets.{has}
use Rattle.house_directory.specs.HouseMessages.{numbers_of}
use Rattle.mend_replay.proofs.masters.is_among.Given as goal

abbrev pub invariant-loop-other : goal.invariant-loop-other
invariant-loop-other l = has l.house.0 (numbers_of (drop l.other-index l.houses)) ≡ has l.house.0 (numbers_of l.houses)

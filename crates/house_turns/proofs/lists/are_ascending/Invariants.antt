use Rattle.std.proofs.Common.{◌≡◌, drop}
use Rattle.house_directory.specs.HouseMessages.{numbers_of}
use Rattle.house_turns.specs.HouseAnswers.{ascend_from}
use Rattle.house_turns.proofs.lists.are_ascending.Given as goal

abbrev pub invariant-loop-house : goal.invariant-loop-house
invariant-loop-house l = ascend_from 0 (numbers_of l.houses) ≡ ascend_from l.least (numbers_of (drop l.house-index l.houses))

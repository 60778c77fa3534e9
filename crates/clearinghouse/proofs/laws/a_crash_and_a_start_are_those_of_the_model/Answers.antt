use Rattle.std.proofs.Common.{refl}
use Rattle.cell_model.specs.Turns.{crashed_house}
use Rattle.clearinghouse.specs.HouseImages.{house_after_restart}
use Rattle.clearinghouse.proofs.Restarting.{crash_stands, floor_stays, restarted_lawful, start_stands}
use Rattle.clearinghouse.proofs.Starting.{image_valid}
use Rattle.clearinghouse.proofs.laws.a_crash_and_a_start_are_those_of_the_model.Goals as goal

pub returns : goal.returns
returns _ = record {
  down = crash_stands;
  up = λ c now stands. start_stands (house_after_restart c) (crashed_house now) (crash_stands c now stands);
  image = image_valid;
  lawful = restarted_lawful;
  who = λ c. (refl, refl);
  floor = floor_stays;
}

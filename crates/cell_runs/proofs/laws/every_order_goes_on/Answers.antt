use Rattle.cell_runs.proofs.Goings.{goes_on}
use Rattle.cell_runs.proofs.laws.every_order_goes_on.Goals as goal

pub returns : goal.returns
returns c houses logs left line done order follows splits x some = goes_on houses logs left line done order follows splits x some

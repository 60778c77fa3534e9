use Rattle.std.specs.Prelude.{map}
use Rattle.cds_cell.specs.Scripted.{step_of}
use Rattle.cds_cell.proofs.laws.converges.Goals as goal

pub returns : goal.returns
returns c = c.convergence.ensures (map step_of c.args.commands.now)

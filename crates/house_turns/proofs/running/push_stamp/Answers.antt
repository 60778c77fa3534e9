use Rattle.std.proofs.Common.{arith}
use Rattle.house_turns.proofs.running.push_stamp.Goals as goal

pub returns-clause-fits : goal.returns-clause-fits
returns-clause-fits c = record { time = omega arith; node = c.push_node.ensures.fits }

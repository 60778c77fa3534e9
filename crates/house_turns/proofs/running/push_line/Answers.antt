use Rattle.std.proofs.Common.{arith}
use Rattle.house_turns.proofs.running.push_line.Goals as goal

pub returns-clause-fits : goal.returns-clause-fits
returns-clause-fits c = record { dir = omega arith; stamp = c.in_ok-push_stamp.ensures.fits; answered = omega arith }

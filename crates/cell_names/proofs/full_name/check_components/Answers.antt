use Rattle.std.proofs.Common.{arith}
use Rattle.cell_names.proofs.NameWalks.{walk_fault-components}
use Rattle.cell_names.proofs.full_name.check_components.Goals as goal

pub loop-i-init : goal.loop-i-init
loop-i-init c = record { same = walk_fault-components 5 c.args.octets.now; short = omega arith }

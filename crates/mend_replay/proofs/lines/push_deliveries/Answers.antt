use Rattle.std.proofs.Common.{◌+◌, ◌<◌, arith}
use Rattle.cell_model.specs.Commands.{Deliver}
use Rattle.mend_replay.proofs.PutLines.{left_one, next_delivery}
use Rattle.mend_replay.proofs.lines.push_deliveries.Goals as goal

pub loop-serial-preserved : goal.loop-serial-preserved
loop-serial-preserved c =
    let less : c.loop-serial.serial < c.args.first + c.args.count = omega arith in
    left_one _ _ _ (Deliver (c.loop-serial.serial + 1)) _ _ (next_delivery c.loop-serial.serial (c.args.first + c.args.count) less) c.loop-serial.invariant
    c.in_ok-push_delivery.ensures

use Rattle.mend_replay.proofs.Rooms.{room_left}
use Rattle.mend_replay.proofs.mender.Mender.print_lines.Goals as goal

pub mend_text-requires : goal.mend_text-requires
mend_text-requires c =
    record { room = room_left c.args.self.now c.cell-cell.result.now c.is_spent.result c.cell-cell.ensures c.is_spent.ensures c.if-is_spent.false }
